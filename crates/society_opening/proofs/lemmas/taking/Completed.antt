-- What raised tables hold once they are completed, and what older ones stand for.
use Rattle.std.proofs.Common.{◌≡◌, ◌≢◌, ◌∙◌, ℕ, pos, true, List, [], ◌∷◌, IsPermutation, arith, drop, map, refl, subst, sym, take}
use Rattle.std.specs.List.{AllByRecursion}
use Rattle.std.proofs.lemmas.List.Sorted.{IsPermutation-refl}
use Rattle.share_rules.specs.Office.{name_of}
use Rattle.share_rules.specs.declared.office.Office.{Office}
use Rattle.sqlite_schema.specs.declared.schema.Table.{Table}
use Rattle.sqlite_trees.specs.Tree.{Trees, rowid}
use Rattle.sqlite_trees.specs.View.{is_int}
use Rattle.sqlite_value.specs.Order.{Row}
use Rattle.society_rows.specs.Layout as layout
use Rattle.society_rows.specs.Layout.{all_tables, written_out}
use Rattle.society_rows.specs.Layouts.{number_of, tables_of}
use Rattle.society_rows.specs.Raising.{Raises}
use Rattle.society_rows.specs.Stored.{AreNumbered, rows_in, values_of}
use Rattle.society_rows.specs.TableNames.{table_called}
use Rattle.society_rows.specs.declared.older.OlderLayout.{OlderLayout}
use Rattle.society_rows.specs.declared.older.OlderLayout.TheVariants as older
use Rattle.society_rows.specs.declared.tables.TableName.{TableName}
use Rattle.society_rows.specs.declared.tables.TableName.TheVariants as name
use Rattle.society_book.specs.BookRows.{book_of}
use Rattle.society_book.specs.Columns.{HasRows}
use Rattle.society_opening.specs.Older.{Becomes, HoldsOlder, office_row_under}
use Rattle.society_opening.specs.TakingOver.{CanComplete, IsRaised, KeepsOlder}
use Rattle.society_opening.proofs.lemmas.taking.SameTables.{AgreesAt, holds_as}
use Rattle.book_audit.specs.Audited.{IsRegistered}
use Rattle.book_derivation.specs.Deriving.{KeepsOwn}

-- what holds of each of some by two things that hold of each
all_zip : {A : Type 0} (P Q R : A → Type 0) (xs : List A) → ((x : A) → P x → Q x → R x) → AllByRecursion P xs → AllByRecursion Q xs → AllByRecursion R xs
all_zip P Q R [] follows ps qs = tt
all_zip P Q R (x ∷ xs) follows ps qs = (follows x ps.0 qs.0, all_zip P Q R xs follows ps.1 qs.1)

-- what an older layout has is as it was, where only what is derived was written, and where nothing was
pub keeps_first : (old new : Trees) → KeepsOwn old new → KeepsOlder older.First old new
keeps_first old new keeps = record { there = keeps.first; later = keeps.later }

all_same : (ts : List Table) (db : Trees) → AllByRecursion (λ (t : Table). db t.tree ≡ db t.tree) ts
all_same [] db = tt
all_same (t ∷ ts) db = (refl, all_same ts db)

pub keeps_second : (old new : Trees) → new ≡ old → KeepsOlder older.Second old new
keeps_second old new same = subst (λ (db : Trees). KeepsOlder older.Second old db) (sym same) (record { there = all_same (take 12 all_tables) old; later = all_same (drop 12 all_tables) old })

-- a table that is as it was has the rows that it had
same_rows : (t : Table) (one two : Trees) → two t.tree ≡ one t.tree → rows_in t two ≡ rows_in t one
same_rows t one two same = subst (λ (rows : List Row). map (values_of t) rows ≡ map (values_of t) (one t.tree)) (sym same) refl

same_at : (n : TableName) (one two : Trees) → two (table_called n).tree ≡ one (table_called n).tree → AgreesAt n one two
same_at n one two same = subst (λ (rows : List Row). IsPermutation (rows_in (table_called n) one) rows) (sym (same_rows (table_called n) one two same)) (IsPermutation-refl (rows_in (table_called n) one))

numbered_as : (t : Table) (one two : Trees) → two t.tree ≡ one t.tree → AreNumbered t one → AreNumbered t two
numbered_as t one two same numbered = subst (λ (rows : List Row). AllByRecursion (λ r. is_int (rowid r) ≡ true) rows) (sym same) numbered

has_as : {K : Type 0} (is_of : K → Row → _) (expected : K → List Row) (t : Table) (one two : Trees) → two t.tree ≡ one t.tree → HasRows is_of expected (rows_in t one) → HasRows is_of expected (rows_in t two)
has_as is_of expected t one two same has = subst (λ (rows : List Row). HasRows is_of expected rows) (sym (same_rows t one two same)) has

-- the tables that no older layout has are empty once they are made
made_empty : (l : OlderLayout) (old mid : Trees) → Raises l old mid → AllByRecursion (λ t. mid t.tree ≡ []) (drop 12 all_tables)
unfolding written_out
made_empty older.First old mid raised = raised.empty.1.1.1.1.1.1
made_empty older.Second old mid raised = raised.empty

-- tables that were raised and completed are those that the older ones stand for
pub stand_for : (l : OlderLayout) (old mid new : Trees) → Raises l old mid → KeepsOlder l mid new → Becomes l old new
stand_for l old mid new raised keeps = record {
  kept = all_zip (λ t. t.tree ≢ layout.office.tree → mid t.tree ≡ old t.tree) (λ t. new t.tree ≡ mid t.tree) (λ t. t.tree ≢ layout.office.tree → new t.tree ≡ old t.tree) (take (tables_of l) all_tables)
      (λ t one two other. two ∙ one other) raised.kept keeps.there;
  empty = all_zip (λ t. mid t.tree ≡ []) (λ t. new t.tree ≡ mid t.tree) (λ t. new t.tree ≡ []) (drop 12 all_tables) (λ t one two. two ∙ one) (made_empty l old mid raised) keeps.later;
}

-- the office of raised tables is this one
pub named_so : (o : Office) (l : OlderLayout) (old mid : Trees) → Raises l old mid → rows_in layout.office old ≡ office_row_under (number_of l) o ∷ [] → IsRegistered o mid
named_so o l old mid raised named = raised.named (pos (number_of l)) (pos o.society) (pos o.territory) (name_of o) named

-- and what is to be derived yet is not there
pub raised_so : (l : OlderLayout) (old mid : Trees) → Raises l old mid → IsRaised l mid
unfolding written_out
raised_so older.First old mid raised = ((raised.empty.0, (raised.empty.1.0, (raised.empty.1.1.0, (raised.empty.1.1.1.0, tt)))), (raised.empty.1.1.1.1.0, (raised.empty.1.1.1.1.1.0, tt)))
raised_so older.Second old mid raised = tt

-- raised tables of older ones that stand for tables with a book can be completed
pub can_complete : (o : Office) (l : OlderLayout) (old mid : Trees) → Raises l old mid → (held : HoldsOlder o l old) → CanComplete o (book_of held.new) l mid
unfolding written_out
can_complete o older.First old mid raised held = record {
  registered = named_so o older.First old mid raised held.registered;
  sound = held.holds.sound;
  own = record {
    transmissions = has_as _ _ layout.transmissions held.new mid (one raised.kept.1.0 held.stands.kept.1.0 (λ e. omega (e, arith))) held.holds.kept.transmissions;
    returns = has_as _ _ layout.returns held.new mid (one raised.kept.1.1.0 held.stands.kept.1.1.0 (λ e. omega (e, arith))) held.holds.kept.returns;
    pools = has_as _ _ layout.pools held.new mid (one raised.kept.1.1.1.0 held.stands.kept.1.1.1.0 (λ e. omega (e, arith))) held.holds.kept.pools;
    cuts = has_as _ _ layout.pool_cuts held.new mid (one raised.kept.1.1.1.1.0 held.stands.kept.1.1.1.1.0 (λ e. omega (e, arith))) held.holds.kept.cuts;
    paid = has_as _ _ layout.pool_returns held.new mid (one raised.kept.1.1.1.1.1.0 held.stands.kept.1.1.1.1.1.0 (λ e. omega (e, arith))) held.holds.kept.paid;
    ends = has_as _ _ layout.segment_ends held.new mid (raised.empty.1.1.1.1.1.1.0 ∙ sym held.stands.empty.0) held.holds.kept.ends;
    mechanical = has_as _ _ layout.mechanical_pools held.new mid (raised.empty.1.1.1.1.1.1.1.0 ∙ sym held.stands.empty.1.0) held.holds.kept.mechanical;
  };
  lines = (raised_so older.First old mid raised).0;
  money = (raised_so older.First old mid raised).1;
}
  where
    one : {at : ℕ} → (at ≢ layout.office.tree → mid at ≡ old at) → (at ≢ layout.office.tree → held.new at ≡ old at) → at ≢ layout.office.tree → mid at ≡ held.new at
    one kept stands other = kept other ∙ sym (stands other)
can_complete o older.Second old mid raised held =
    let office : AgreesAt name.Office held.new mid = subst (λ (rows : List Row). IsPermutation (rows_in layout.office held.new) rows) (held.holds.registered ∙ sym (named_so o older.Second old mid raised held.registered)) (IsPermutation-refl (rows_in layout.office held.new)) in
    holds_as o (book_of held.new) held.new mid held.holds (
      office,
      (
        at name.Transmissions raised.kept.1.0 held.stands.kept.1.0 (λ e. omega (e, arith)),
        (
          at name.Returns raised.kept.1.1.0 held.stands.kept.1.1.0 (λ e. omega (e, arith)),
          (
            at name.Pools raised.kept.1.1.1.0 held.stands.kept.1.1.1.0 (λ e. omega (e, arith)),
            (
              at name.PoolCuts raised.kept.1.1.1.1.0 held.stands.kept.1.1.1.1.0 (λ e. omega (e, arith)),
              (
                at name.PoolReturns raised.kept.1.1.1.1.1.0 held.stands.kept.1.1.1.1.1.0 (λ e. omega (e, arith)),
                (
                  at name.Fronts raised.kept.1.1.1.1.1.1.0 held.stands.kept.1.1.1.1.1.1.0 (λ e. omega (e, arith)),
                  (
                    at name.Verdicts raised.kept.1.1.1.1.1.1.1.0 held.stands.kept.1.1.1.1.1.1.1.0 (λ e. omega (e, arith)),
                    (
                      at name.Versions raised.kept.1.1.1.1.1.1.1.1.0 held.stands.kept.1.1.1.1.1.1.1.1.0 (λ e. omega (e, arith)),
                      (
                        at name.Recordings raised.kept.1.1.1.1.1.1.1.1.1.0 held.stands.kept.1.1.1.1.1.1.1.1.1.0 (λ e. omega (e, arith)),
                        (
                          at name.Credits raised.kept.1.1.1.1.1.1.1.1.1.1.0 held.stands.kept.1.1.1.1.1.1.1.1.1.1.0 (λ e. omega (e, arith)),
                          (
                            at name.Balances raised.kept.1.1.1.1.1.1.1.1.1.1.1.0 held.stands.kept.1.1.1.1.1.1.1.1.1.1.1.0 (λ e. omega (e, arith)),
                            (same_at name.SegmentEnds held.new mid (raised.empty.0 ∙ sym held.stands.empty.0), (same_at name.MechanicalPools held.new mid (raised.empty.1.0 ∙ sym held.stands.empty.1.0), tt)),
                          ),
                        ),
                      ),
                    ),
                  ),
                ),
              ),
            ),
          ),
        ),
      ),
    ) (
      numbered_as layout.fronts held.new mid (one raised.kept.1.1.1.1.1.1.0 held.stands.kept.1.1.1.1.1.1.0 (λ e. omega (e, arith))) held.holds.numbered.0,
      numbered_as layout.balances held.new mid (one raised.kept.1.1.1.1.1.1.1.1.1.1.1.0 held.stands.kept.1.1.1.1.1.1.1.1.1.1.1.0 (λ e. omega (e, arith))) held.holds.numbered.1,
    )
  where
    one : {at : ℕ} → (at ≢ layout.office.tree → mid at ≡ old at) → (at ≢ layout.office.tree → held.new at ≡ old at) → at ≢ layout.office.tree → mid at ≡ held.new at
    one kept stands other = kept other ∙ sym (stands other)

    at : (n : TableName) → ((table_called n).tree ≢ layout.office.tree → mid (table_called n).tree ≡ old (table_called n).tree) → ((table_called n).tree ≢ layout.office.tree → held.new (table_called n).tree ≡ old (table_called n).tree)
        → (table_called n).tree ≢ layout.office.tree → AgreesAt n held.new mid
    at n kept stands other = same_at n held.new mid (one kept stands other)
