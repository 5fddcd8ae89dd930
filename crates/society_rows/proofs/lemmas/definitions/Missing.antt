-- Tables that are made one after another, behind so many first ones.
use Rattle.std.proofs.Common.{◌⊎◌, ◌≡◌, ◌∙◌, ℕ, zero, suc, ◌+◌, ◌-◌, ◌<◌, ◌≤◌, List, [], ◌∷◌, ◌++◌, length, take, drop, map, get_or, false, IsTrue, Result, Ok, IfErr, refl, sym, ap, subst, arith, inl, inr, append-nil, append_assoc}
use Rattle.std.specs.List.{AllByRecursion, fold}
use Rattle.std.proofs.Math.Nat.{le_refl}
use Rattle.std.proofs.lemmas.List.{get_or-drop, take_more, take_all, length-take}
use Rattle.std.proofs.lemmas.List.Sums.{fold_push}
use Rattle.std.proofs.Math.Seq.{drop-append_seam}
use Rattle.sqlite_schema.specs.declared.schema.Reference.{Reference}
use Rattle.sqlite_schema.specs.declared.schema.Schema.{Schema}
use Rattle.sqlite_schema.specs.declared.schema.Table.{Table}
use Rattle.sqlite_catalog.specs.Change.{created, next_tree}
use Rattle.sqlite_rules.proofs.ListLemmas.{all_has, all_from, has_either, has_left, has_right}
use Rattle.sqlite.specs.Effect.{Database}
use Rattle.sqlite.specs.State.{State, HasCleanDisk, ExecutesInside}
use Rattle.society_rows.specs.declared.fault.RowFault.{RowFault}
use Rattle.society_rows.specs.Effects.{BlamesMediumOver, OnlyFailsOver, RanAs}
use Rattle.society_rows.specs.Faults.{IsFailure}
use Rattle.society_rows.specs.Layout.{pool_cuts, pool_returns, all_tables, no_schema, office, table_called, tables_with, written_out}
use Rattle.society_rows.specs.Layouts.{HasFirst, schema_to}
use Rattle.society_rows.specs.Raising.{Extends}
use Rattle.society_rows.specs.TableNames.{create_text}
use Rattle.society_rows.proofs.lemmas.definitions.Creates.{IsDefinition, IsMade, creates}
use Rattle.society_rows.proofs.lemmas.definitions.FirstTables.{IsOrdered, all_named, first_of, longer, name_in, ordered, place_at, tables_are}
use Rattle.society_rows.proofs.lemmas.definitions.Texts.{defined}
use Rattle.society_rows.proofs.lemmas.errors.ToldTables.{create_blames, create_tells}

-- with these references of cuts and of payments the tables from one on are as their texts make them
abbrev AreStated : ℕ → List Reference → List Reference → Type 0
AreStated count cuts payments = (at : ℕ) → count ≤ at → get_or (tables_with cuts payments) at office ≡ get_or all_tables at office

stated_all : AreStated 0 pool_cuts.references pool_returns.references
unfolding written_out
stated_all at low = refl

later_alike : (cuts payments : List Reference) → drop 6 (tables_with cuts payments) ≡ drop 6 all_tables
unfolding written_out
later_alike cuts payments = refl

-- behind the book's tables in whatever order references are listed
stated_later : (cuts payments : List Reference) → AreStated 6 cuts payments
stated_later cuts payments at low =
    let at_behind = λ (ts : List Table). get_or-drop 6 ts (at - 6) office in
    let is : 6 + (at - 6) ≡ at = omega (arith, low) in
    subst (λ n. get_or (tables_with cuts payments) n office ≡ get_or all_tables n office) is
    (sym (at_behind (tables_with cuts payments)) ∙ ap (λ l. get_or l (at - 6) office) (later_alike cuts payments) ∙ at_behind all_tables)

-- of so many first tables those behind some are new and empty, and these have the rows that they had
pub record Grows (from count : ℕ) (old new : Database) : Type 0 where
  pub was : IsOrdered from old.schema
  pub first : IsOrdered count new.schema
  pub stated : AreStated count first.cuts first.payments
  pub kept : AllByRecursion (λ t. new.trees t.tree ≡ old.trees t.tree) old.schema.tables
  pub made : List Table
  pub are : new.schema.tables ≡ old.schema.tables ++ made
  pub empty : AllByRecursion (λ t. new.trees t.tree ≡ []) made

-- no table is made yet
pub none_made : (from : ℕ) → (from ≡ 0) ⊎ (6 ≤ from) → (d : Database) → HasFirst from d → Grows from from d d
none_made zero start d has = record {
  was = ordered has;
  first = record { cuts = pool_cuts.references; payments = pool_returns.references; cuts_are = inl refl; payments_are = inl refl; is = (ordered has).is };
  stated = stated_all;
  kept = all_from _ d.schema.tables (λ t is. refl);
  made = [];
  are = sym (append-nil d.schema.tables);
  empty = tt;
}
none_made (suc n) start d has =
    let book : 6 ≤ suc n = elim start [ inl none ↦ absurd (let e = none in cc) | inr book ↦ book ] in
    record {
      was = ordered has;
      first = ordered has;
      stated = λ at low. stated_later (ordered has).cuts (ordered has).payments at (omega arith);
      kept = all_from _ d.schema.tables (λ t is. refl);
      made = [];
      are = sym (append-nil d.schema.tables);
      empty = tt;
    }

one_more : (from i : ℕ) (table : Table) (old mid new : Database) (has : Grows from i old mid)
    → take (i + 1) (tables_with has.first.cuts has.first.payments) ≡ take i (tables_with has.first.cuts has.first.payments) ++ table ∷ []
    → IsMade (schema_to i has.first.cuts has.first.payments) table mid new → Grows from (i + 1) old new
one_more from i table old mid new has more is_made =
    let first = has.first in
    let before = schema_to i first.cuts first.payments in
    let placed : Table = record table { tree = next_tree before } in
    let were : before.tables ≡ old.schema.tables ++ has.made = ap (λ (s : Schema). s.tables) (sym first.is) ∙ has.are in
    let others : AllByRecursion (λ t. new.trees t.tree ≡ mid.trees t.tree) (old.schema.tables ++ has.made) = subst (AllByRecursion (λ t. new.trees t.tree ≡ mid.trees t.tree)) were is_made.others in
    record {
      was = has.was;
      first = record {
        cuts = first.cuts;
        payments = first.payments;
        cuts_are = first.cuts_are;
        payments_are = first.payments_are;
        is = is_made.schema ∙ sym (ap (fold created no_schema) more ∙ fold_push created no_schema (take i (tables_with first.cuts first.payments)) table);
      };
      stated = λ at low. has.stated at (omega arith);
      kept = all_from _ old.schema.tables (λ t is. all_has _ (old.schema.tables ++ has.made) t others (has_left old.schema.tables has.made t is) ∙ all_has _ old.schema.tables t has.kept is);
      made = has.made ++ placed ∷ [];
      are = ap (λ (s : Schema). s.tables) is_made.schema ∙ ap (λ (ts : List Table). ts ++ placed ∷ []) were ∙ append_assoc old.schema.tables has.made (placed ∷ []);
      empty = all_from _ (has.made ++ placed ∷ []) (λ t is. elim (has_either has.made (placed ∷ []) t is) [
        | inl was ↦ all_has _ (old.schema.tables ++ has.made) t others (has_right old.schema.tables has.made t was) ∙ all_has _ has.made t has.empty was
        | inr now ↦ elim now [ inl e ↦ ap (λ (x : Table). new.trees x.tree) e ∙ is_made.empty | inr none ↦ absurd none ]
      ]);
    }

-- the text of the next table makes it behind the tables that are there
defined_next : (from at : ℕ) → at < 14 → (was now : Database) (has : Grows from at was now) → IsDefinition (schema_to at has.first.cuts has.first.payments) (create_text (name_in at)) (get_or (tables_with has.first.cuts has.first.payments) at office)
defined_next from at within was now has =
    let schema : ℕ → Schema = λ n. schema_to n has.first.cuts has.first.payments in
    subst (IsDefinition (schema at) (create_text (name_in at))) (sym (has.stated at (le_refl at) ∙ all_named at within))
    (subst (λ n. IsDefinition (schema n) (create_text (name_in at)) (table_called (name_in at))) (place_at at within) (defined (name_in at) has.first.cuts has.first.payments))

-- so there is one table more
pub next_made : (from at : ℕ) → at < 14 → (d : Database) (old new : State) (count : ℕ) → Grows from at d old.now → ExecutesInside 0 (create_text (name_in at)) [] old new (Ok count) → Grows from (at + 1) d new.now
next_made from at within d old new count has h =
    let all = tables_with has.first.cuts has.first.payments in
    one_more from at (get_or all at office) d old.now new.now has (take_more all at office (omega (arith, within, longer has.first.cuts has.first.payments)))
    (creates _ _ _ (defined_next from at within d old.now has) old new count has.first.is h.0)

-- what the next text tells of an error
pub next_made_tells : (from at : ℕ) → at < 14 → (old new : State) (result : Result (Unit {0}) RowFault) → (old.in_transaction ≡ false → IfErr result IsFailure)
    → (HasCleanDisk new → IsTrue old.in_transaction → RanAs (create_text (name_in at)) [] old new result) → OnlyFailsOver (λ d. (was : Database) × Grows from at was d) old new result
next_made_tells from at within old new result ended ran clean grown =
    create_tells _ _ _ (defined_next from at within grown.0 old.now grown.1) old new result ended ran clean grown.1.first.is

-- when the next text tells of the medium
pub next_made_blames : (from at : ℕ) → at < 14 → (old new : State) (result : Result (Unit {0}) RowFault)
    → (HasCleanDisk new → IsTrue old.in_transaction → RanAs (create_text (name_in at)) [] old new result) → BlamesMediumOver (λ d. (was : Database) × Grows from at was d) old new result
next_made_blames from at within old new result ran clean inside grown =
    create_blames _ _ _ (defined_next from at within grown.0 old.now grown.1) old new result ran clean inside grown.1.first.is

-- ---- the tables by their trees

trees_alike : (cuts payments : List Reference) → map (λ (t : Table). t.tree) (tables_with cuts payments) ≡ map (λ (t : Table). t.tree) all_tables
unfolding written_out
trees_alike cuts payments = refl

take_alike : (P : ℕ → Type 0) (n : ℕ) (xs ys : List Table) → map (λ (t : Table). t.tree) xs ≡ map (λ (t : Table). t.tree) ys → AllByRecursion (λ t. P t.tree) (take n xs) → AllByRecursion (λ t. P t.tree) (take n ys)
take_alike P zero xs ys same all = tt
take_alike P (suc n) xs [] same all = tt
take_alike P (suc n) [] (y ∷ ys) same all = absurd cc
take_alike P (suc n) (x ∷ xs) (y ∷ ys) same all =
    let first : x.tree ≡ y.tree = cc in
    let rest : map (λ (t : Table). t.tree) xs ≡ map (λ (t : Table). t.tree) ys = cc in
    (subst P first all.0, take_alike P n xs ys rest all.1)

all_alike : (P : ℕ → Type 0) (xs ys : List Table) → map (λ (t : Table). t.tree) xs ≡ map (λ (t : Table). t.tree) ys → AllByRecursion (λ t. P t.tree) xs → AllByRecursion (λ t. P t.tree) ys
all_alike P xs [] same all = tt
all_alike P [] (y ∷ ys) same all = absurd cc
all_alike P (x ∷ xs) (y ∷ ys) same all =
    let first : x.tree ≡ y.tree = cc in
    let rest : map (λ (t : Table). t.tree) xs ≡ map (λ (t : Table). t.tree) ys = cc in
    (subst P first all.0, all_alike P xs ys rest all.1)

drop_alike : (P : ℕ → Type 0) (n : ℕ) (xs ys : List Table) → map (λ (t : Table). t.tree) xs ≡ map (λ (t : Table). t.tree) ys → AllByRecursion (λ t. P t.tree) (drop n xs) → AllByRecursion (λ t. P t.tree) (drop n ys)
drop_alike P zero xs ys same all = all_alike P xs ys same all
drop_alike P (suc n) xs [] same all = tt
drop_alike P (suc n) [] (y ∷ ys) same all = absurd cc
drop_alike P (suc n) (x ∷ xs) (y ∷ ys) same all = let rest : map (λ (t : Table). t.tree) xs ≡ map (λ (t : Table). t.tree) ys = cc in drop_alike P n xs ys rest all

-- after the last text every table is there
pub all_made : (from i : ℕ) → from ≤ 14 → 14 ≤ i → (d e : Database) → Grows from i d e → Extends from d e
all_made from i some past d e has =
    let was = has.was in
    let first = has.first in
    let olds = tables_with was.cuts was.payments in
    let news = tables_with first.cuts first.payments in
    let long = longer was.cuts was.payments in
    let long_now = longer first.cuts first.payments in
    let had : d.schema.tables ≡ take from olds = ap (λ (s : Schema). s.tables) was.is ∙ tables_are from was.cuts was.payments in
    let whole : take i news ≡ news = take_all i news (omega (arith, long_now)) in
    let all : news ≡ take from olds ++ has.made =
    sym whole ∙ sym (tables_are i first.cuts first.payments) ∙ ap (λ (s : Schema). s.tables) (sym first.is) ∙ has.are ∙ ap (λ ts. ts ++ has.made) had in
    let count : length (take from olds) ≡ from = omega (arith, length-take from olds, long) in
    let rest : drop from news ≡ has.made = ap (drop from) all ∙ ap (λ n. drop n (take from olds ++ has.made)) (sym count) ∙ drop-append_seam (take from olds) has.made in
    record {
      layout = first_of (record {
        cuts = first.cuts;
        payments = first.payments;
        cuts_are = first.cuts_are;
        payments_are = first.payments_are;
        is = first.is ∙ ap (fold created no_schema) (whole ∙ sym (take_all 14 news (omega (arith, long_now))));
      });
      kept = take_alike (λ n. e.trees n ≡ d.trees n) from olds all_tables (trees_alike was.cuts was.payments) (subst (AllByRecursion (λ t. e.trees t.tree ≡ d.trees t.tree)) had has.kept);
      empty = drop_alike (λ n. e.trees n ≡ []) from news all_tables (trees_alike first.cuts first.payments) (subst (AllByRecursion (λ t. e.trees t.tree ≡ [])) (sym rest) has.empty);
    }
