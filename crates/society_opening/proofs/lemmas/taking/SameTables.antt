-- Tables with the rows of others hold what those hold.
use Rattle.std.proofs.Common.{◌≡◌, List, [], ◌∷◌, Bool, ap, filter, true, IsPermutation, refl, subst}
use Rattle.std.specs.List.{AllByRecursion}
use Rattle.std.proofs.lemmas.List.Sorted.{IsPermutation-trans}
use Rattle.share_rules.specs.declared.office.Office.{Office}
use Rattle.society_core.specs.Book.{Book}
use Rattle.society_rows.specs.Layout as layout
use Rattle.society_rows.specs.Stored.{AreNumbered, rows_in}
use Rattle.society_rows.specs.TableNames.{table_called}
use Rattle.society_rows.specs.declared.tables.TableName.{TableName}
use Rattle.society_rows.specs.declared.tables.TableName.TheVariants as name
use Rattle.sqlite_trees.specs.Tree.{Trees}
use Rattle.sqlite_value.specs.Order.{Row}
use Rattle.sqlite_keyed.proofs.ListLemmas.{IsPermutation-filter}
use Rattle.society_book.specs.Columns.{HasRows}
use Rattle.society_book.specs.Kept.{HoldsBook, office_row}
use Rattle.society_book.proofs.lemmas.rows_alike.RowLemmas.{one_else}

-- every table
abbrev every_name : List TableName
every_name =
    name.Office ∷ name.Transmissions ∷ name.Returns ∷ name.Pools ∷ name.PoolCuts ∷ name.PoolReturns ∷ name.Fronts ∷ name.Verdicts ∷ name.Versions ∷ name.Recordings ∷ name.Credits ∷ name.Balances ∷ name.SegmentEnds ∷ name.MechanicalPools ∷ []

-- a table has the same rows in both, in any order
abbrev pub AgreesAt : TableName → Trees → Trees → Type 0
AgreesAt n one two = IsPermutation (rows_in (table_called n) one) (rows_in (table_called n) two)

-- each table has
abbrev pub Agree : Trees → Trees → Type 0
Agree one two = AllByRecursion (λ n. AgreesAt n one two) every_name

-- the rows of each key are the same along the order of a table
pub has_rows : {K : Type 0} (is_of : K → Row → Bool) (expected : K → List Row) (one two : List Row) → HasRows is_of expected one → IsPermutation one two → HasRows is_of expected two
has_rows is_of expected one two has same q = IsPermutation-trans (expected q) (filter (is_of q) one) (filter (is_of q) two) (has q) (IsPermutation-filter (is_of q) one two same)

pub holds_as : (o : Office) (b : Book) (one two : Trees) → HoldsBook o b one → Agree one two → AreNumbered layout.fronts two × AreNumbered layout.balances two → HoldsBook o b two
holds_as o b one two holds agree numbered = record {
  registered = one_else (office_row o) (rows_in layout.office two) (subst (λ rows. IsPermutation rows (rows_in layout.office two)) holds.registered agree.0);
  sound = holds.sound;
  kept = record {
    transmissions = has_rows _ _ _ _ holds.kept.transmissions agree.1.0;
    returns = has_rows _ _ _ _ holds.kept.returns agree.1.1.0;
    pools = has_rows _ _ _ _ holds.kept.pools agree.1.1.1.0;
    cuts = has_rows _ _ _ _ holds.kept.cuts agree.1.1.1.1.0;
    paid = has_rows _ _ _ _ holds.kept.paid agree.1.1.1.1.1.0;
    ends = has_rows _ _ _ _ holds.kept.ends agree.1.1.1.1.1.1.1.1.1.1.1.1.0;
    mechanical = has_rows _ _ _ _ holds.kept.mechanical agree.1.1.1.1.1.1.1.1.1.1.1.1.1.0;
  };
  derived = record {
    fronts = has_rows _ _ _ _ holds.derived.fronts agree.1.1.1.1.1.1.0;
    verdicts = has_rows _ _ _ _ holds.derived.verdicts agree.1.1.1.1.1.1.1.0;
    versions = has_rows _ _ _ _ holds.derived.versions agree.1.1.1.1.1.1.1.1.0;
    recordings = has_rows _ _ _ _ holds.derived.recordings agree.1.1.1.1.1.1.1.1.1.0;
    credits = has_rows _ _ _ _ holds.derived.credits agree.1.1.1.1.1.1.1.1.1.1.0;
    balances = has_rows _ _ _ _ holds.derived.balances agree.1.1.1.1.1.1.1.1.1.1.1.0;
  };
  numbered = numbered;
}

-- every row passes a test that is always passed
pub all_pass : (rows : List Row) → filter (λ _. true) rows ≡ rows
all_pass [] = refl
all_pass (row ∷ rows) = ap (λ rest. row ∷ rest) (all_pass rows)
