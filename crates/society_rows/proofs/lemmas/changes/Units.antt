-- The units of an account, and more of them.
use Rattle.std.proofs.Common.{◌≡◌, ◌⊎◌, ◌≤◌, ℕ, ℤ, pos, ◌+ℤ◌, true, List, [], ◌∷◌, filter, length, Result, Ok, Err, IfOk, IfErr, OnOk, OnErr, FitsSigned, refl, sym, ap, subst, ◌∙◌, inl, inr, arith, IsPermutation}
use Rattle.std.specs.Int.{w64}
use Rattle.std.proofs.lemmas.List.Sorted.{IsPermutation-sym, length_permutation}
use Rattle.sqlite_value.specs.declared.value.Value.TheVariants.{Int, Text}
use Rattle.sqlite_value.specs.Order.{Row}
use Rattle.sqlite_trees.specs.Tree.{Trees}
use Rattle.sqlite_rules.specs.Lists.{Has}
use Rattle.sqlite_rules.proofs.ListLemmas.{has_filtered}
use Rattle.sqlite.specs.Effect.{Database}
use Rattle.sqlite.specs.State.{State, HasCleanDisk}
use Rattle.sqlite.proofs.Callers.{one_permutation}
use Rattle.sqlite.proofs.InsideLemmas.{keeps_then}
use Rattle.sqlite.proofs.StateLemmas.{survives_then}
use Rattle.society_rows.specs.declared.fault.RowFault.{RowFault}
use Rattle.society_rows.specs.Balances.{HasUnits, AddsUnits, HasNoUnits, RefusesUnits}
use Rattle.society_rows.specs.Effects.{Writes}
use Rattle.society_rows.specs.Faults.{IsFailure}
use Rattle.society_rows.specs.Folds.{ReadsInside}
use Rattle.society_rows.specs.Forms.{IsOfForms, balance_forms}
use Rattle.society_rows.specs.Layout.{balances}
use Rattle.society_rows.specs.Reads.{Lists, Reads, has_key}
use Rattle.society_rows.specs.Stored.{rows_in, HasLayout, Puts}
use Rattle.society_rows.proofs.lemmas.readings.KeyEquality.{text_key}

nothing_in : {X : Type 0} (xs : List X) → IsPermutation xs [] → xs ≡ []
nothing_in [] h = refl
nothing_in (x ∷ xs) h = absurd (omega (arith, length_permutation (x ∷ xs) [] h))

pub no_units : (account : List ℕ) (db : Trees) (rows : List Row) → rows ≡ [] → Lists balances (has_key (Text account ∷ [])) 1 db rows → HasUnits account db (pos 0)
no_units account db rows none h = record { rows = inl (nothing_in _ (subst (IsPermutation (filter (has_key (Text account ∷ [])) (rows_in balances db))) none h.rows), refl) }

pub one_balance : (account named : List ℕ) (units : ℤ) (db : Trees) (rows : List Row) (row : Row) → rows ≡ row ∷ [] → Text named ∷ Int units ∷ [] ≡ row → Lists balances (has_key (Text account ∷ [])) 1 db rows
    → HasUnits account db units
one_balance account named units db rows row one is h =
    let passes = has_key (Text account ∷ []) in
    let found : filter passes (rows_in balances db) ≡ row ∷ [] = one_permutation row _ (IsPermutation-sym _ _ (subst (IsPermutation (filter passes (rows_in balances db))) one h.rows)) in
    let here : Has (filter passes (rows_in balances db)) row = subst (λ l. Has l row) (sym found) (inl refl) in
    let tested : passes row ≡ true = (has_filtered passes (rows_in balances db) row here).1 in
    let same : named ≡ account = (text_key named account (Int units ∷ [])).0 (ap passes is ∙ tested) in
    record { rows = inr (found ∙ ap (λ r. r ∷ []) (sym is ∙ ap (λ t. Text t ∷ Int units ∷ []) same)) }

-- an account that has units has them in its one row, or has none
found_units : (account : List ℕ) (db : Trees) (rows : List Row) (units : ℤ) → Lists balances (has_key (Text account ∷ [])) 1 db rows → HasUnits account db units
    → (rows ≡ []) ⊎ (rows ≡ (Text account ∷ Int units ∷ []) ∷ [])
found_units account db rows units h has = elim has.rows [
  | inl none ↦ inl (nothing_in rows (IsPermutation-sym _ _ (subst (λ l. IsPermutation l rows) none.0 h.rows)))
  | inr one ↦ inr (one_permutation (Text account ∷ Int units ∷ []) rows (subst (λ l. IsPermutation l rows) one h.rows))
]

pub two_rows : (account : List ℕ) (db : Trees) (rows : List Row) → 2 ≤ length rows → Lists balances (has_key (Text account ∷ [])) 1 db rows → HasNoUnits account db
two_rows account db rows long h units fits has = elim (found_units account db rows units h has) [
  | inl none ↦ let short = ap length none in absurd (omega (arith, short))
  | inr one ↦ let short = ap length one in absurd (omega (arith, short))
]

pub unread_row : (account : List ℕ) (db : Trees) (rows : List Row) (row : Row) → rows ≡ row ∷ [] → ¬ IsOfForms balance_forms row → Lists balances (has_key (Text account ∷ [])) 1 db rows
    → HasNoUnits account db
unread_row account db rows row one unread h units fits has = elim (found_units account db rows units h has) [
  | inl none ↦ let short = ap length (sym one ∙ none) in absurd (omega (arith, short))
  | inr found ↦
      let same : row ≡ Text account ∷ Int units ∷ [] = cc (one, found) in
      absurd (unread (subst (IsOfForms balance_forms) (sym same) (refl, ((account, refl), ((units, refl, fits), tt)))))
]

-- a reading of one query, and what follows from its rows
pub reads_inside : {X Y : Type 0} (old new : State) (x : X) (result : Result Y RowFault) (P : Trees → X → Type 0) (Q : Trees → Y → Type 0) → Reads old new (Ok x) P
    → ((db : Trees) → P db x → IfOk result (Q db)) → ReadsInside old new result Q
reads_inside old new x result P Q read turns = record {
  found = λ clean has. turns old.now.trees (read.found clean has);
  same = λ clean has. on_ok result (read.same clean has);
  whole = λ clean has. on_err result (inl (read.same clean has));
  inside = λ clean inside. on_ok result (read.inside clean inside);
  kept = read.kept;
  survives = read.survives;
}
  where
    on_ok : {Z : Type 0} (r : Result Z RowFault) {A : Type 0} → A → OnOk r A
    on_ok (Ok z) a = a
    on_ok (Err e) a = tt

    on_err : {Z : Type 0} (r : Result Z RowFault) {A : Type 0} → A → OnErr r A
    on_err (Ok z) a = tt
    on_err (Err e) a = a

-- a write after a reading
pub writes_after : {X : Type 0} (a b c : State) (x : X) (result : Result (Unit {0}) RowFault) (P : Trees → X → Type 0) (Q R : Database → Database → Type 0) → ReadsInside a b (Ok x) P → Writes b c result Q
    → ((d e : Database) → P d.trees x → Q d e → R d e) → Writes a c result R
writes_after a b c x result P Q R one two joins =
    let before = λ (clean : HasCleanDisk c). let was : HasCleanDisk b = omega (arith, two.survives.clean) in was in
    record {
      change = λ clean inside has.
          let still = (one.same (before clean) has).0.now_is in
          on result (λ q. joins a.now c.now (one.found (before clean) has) (subst (λ d. Q d c.now) still q)) (two.change clean (one.inside (before clean) inside) (subst HasLayout (sym still) has));
      inside = λ clean inside. two.inside clean (one.inside (before clean) inside);
      kept = λ clean inside. keeps_then a b c (one.kept (before clean) inside) (two.kept clean (one.inside (before clean) inside));
      survives = survives_then a b c (λ _. ⊥) (λ _. ⊥) (λ _. ⊥) (λ _ db none. none) (λ _ db none. none) one.survives two.survives;
    }
  where
    on : (r : Result (Unit {0}) RowFault) → (Q b.now c.now → R a.now c.now) → OnOk r (Q b.now c.now) → OnOk r (R a.now c.now)
    on (Ok y) f h = f h
    on (Err e) f h = tt

-- the balance is put with the sum
pub sums_units : (a b c : State) (account : List ℕ) (before units sum : ℤ) (result : Result (Unit {0}) RowFault) → ReadsInside a b (Ok before) (HasUnits account) → FitsSigned w64 (before +ℤ units)
    → sum ≡ before +ℤ units → Writes b c result (Puts balances (Text account ∷ Int sum ∷ [])) → Writes a c result (AddsUnits account units)
sums_units a b c account before units sum result read fits is write =
    writes_after a b c before result (HasUnits account) (Puts balances (Text account ∷ Int sum ∷ [])) (AddsUnits account units) read write
    (λ d e had put. record { before = before; had = had; fits = fits; put = subst (λ n. Puts balances (Text account ∷ Int n ∷ []) d e) is put })

-- a write whose faults SQLite tells adds units, or it has that cause
pub told_refuses : (account : List ℕ) (units : ℤ) (db : Trees) (result : Result (Unit {0}) RowFault) → IfErr result IsFailure → IfErr result (RefusesUnits account units db)
told_refuses account units db (Ok x) h = tt
told_refuses account units db (Err e) h = inl (inl h)
