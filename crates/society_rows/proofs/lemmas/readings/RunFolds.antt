-- The transmissions of a sender, one number after another.
use Rattle.std.proofs.Common.{IsTrue, ◌≡◌, ◌∙◌, ℕ, suc, pos, ◌+◌, ◌^◌, ◌<◌, ◌≤◌, length, List, [], ◌∷◌, ◌++◌, Vec, Option, Result, Ok, Err, IfErr, IsErr, IsErrAnd, IsSome, true≢false, sym, ap, subst, refl, inl, inr, arith}
use Rattle.std.specs.declared.alloc.Global.{Global}
use Rattle.std.proofs.lemmas.Bool.{cases_Bool, cases_lt}
use Rattle.std.proofs.lemmas.List.{length-append}
use Rattle.sqlite_value.specs.declared.value.Value.TheVariants.{Int, Text}
use Rattle.sqlite_value.specs.Order.{Row}
use Rattle.sqlite_trees.specs.Tree.{Trees}
use Rattle.sqlite_trees.specs.declared.store.Store.{Ghosts}
use Rattle.sqlite.specs.Effect.{Database}
use Rattle.sqlite.specs.Held.{Held, state}
use Rattle.sqlite.specs.State.{KeepsCommit, HasCleanDisk, IsUnchanged, Survives}
use Rattle.sqlite.proofs.Callers.{unchanged_then}
use Rattle.sqlite.proofs.InsideLemmas.{keeps_then}
use Rattle.sqlite.proofs.StateLemmas.{survives_then}
use Rattle.society_rows.specs.declared.fault.RowFault.{RowFault}
use Rattle.society_rows.specs.declared.fault.RowFault.TheVariants.{Damaged}
use Rattle.society_rows.specs.Effects.{ErrsByMedium, MayFail, OnlyFails}
use Rattle.society_rows.specs.Faults.{IsFailure}
use Rattle.society_rows.specs.Folds.{ReadsInside, HasTaken, AreFirstOfRun, AreDoubled, AreFrom, IsNoRun, IsRun, RefusesRow, StopsRun}
use Rattle.society_rows.specs.Layout.{transmissions}
use Rattle.society_rows.specs.Reads.{Lists, Reads, has_key}
use Rattle.society_rows.specs.Stored.{HasLayout}
use Rattle.society_rows.proofs.lemmas.readings.RowFolds.{takes_row, taken_as}

-- a reading in a transaction has gone over the transmissions below a number
pub record HasRunTo {S : Type 0} (g : Ghosts S) {F : Type 0} (step : F → Row → F) (sender : List ℕ) (old new : Held S) (first number : ℕ) (begun now : F) : Type 0 where
  pub start : number ≡ first → new ≡ old
  pub survives : Survives (state g old) (state g new) (λ _. ⊥)
  pub inside : HasCleanDisk (state g new) → IsTrue (state g old).in_transaction → IsTrue (state g new).in_transaction
  pub kept : HasCleanDisk (state g new) → IsTrue (state g old).in_transaction → KeepsCommit (state g old) (state g new)
  pub same : HasCleanDisk (state g new) → HasLayout (state g old).now → first < number → IsUnchanged (state g old) (state g new)
  pub gone : HasTaken step (λ rows. (length rows + first ≡ number) × AreFirstOfRun (state g old) (state g new) sender first rows) begun now

pub runs_to_first : {S : Type 0} (g : Ghosts S) {F : Type 0} (step : F → Row → F) (sender : List ℕ) (old : Held S) (first : ℕ) (begun : F) → HasRunTo g step sender old old first first begun begun
runs_to_first g step sender old first begun = record {
  start = λ e. refl;
  survives = record { clean = omega arith; shield = λ h. h; counts = omega arith; limit = refl; closes = λ clean was. inl was; crash = λ clean db h. inl h };
  inside = λ clean inside. inside;
  kept = λ clean inside. record { was_open = λ h. h; committed = λ h. refl };
  same = λ clean has more. absurd (omega arith);
  gone = record { rows = []; these = (omega arith, λ clean has. tt); folded = refl };
}

are_from_then : (sender : List ℕ) (first number : ℕ) (db : Trees) (rows : List Row) (row : Row) → AreFrom sender first db rows → length rows + first ≡ number
    → Lists transmissions (has_key (Text sender ∷ Int (pos number) ∷ [])) 2 db (row ∷ []) → AreFrom sender first db (rows ++ row ∷ [])
are_from_then sender first number db [] row all is one =
    let same : number ≡ first = omega arith in
    (subst (λ n. Lists transmissions (has_key (Text sender ∷ Int (pos n) ∷ [])) 2 db (row ∷ [])) same one, tt)
are_from_then sender first number db (r ∷ rows) row all is one = (all.0, are_from_then sender (suc first) number db rows row all.1 (omega arith) one)

module _ {S : Type 0} (g : Ghosts S) {F : Type 0} (step : F → Row → F) (sender : List ℕ) (old mid new : Held S) (first number : ℕ) (begun now : F) (low : first ≤ number)
    (run : HasRunTo g step sender old mid first number begun now) where
  early : Survives (state g mid) (state g new) (λ _. ⊥) → HasCleanDisk (state g new) → HasCleanDisk (state g mid)
  early survives clean = omega (arith, survives.clean)

  on_first : {P : Type 0} → (mid ≡ old → P) → (first < number → P) → P
  on_first here later = elim (cases_lt first number) [ inl more ↦ later more | inr none ↦ here (run.start (omega arith)) ]

  seen_now : HasCleanDisk (state g mid) → HasLayout (state g old).now → (state g mid).now ≡ (state g old).now
  seen_now clean has = on_first (λ e. ap (λ h. (state g h).now) e) (λ more. (run.same clean has more).0.now_is)

  unchanged_on : HasCleanDisk (state g mid) → HasLayout (state g old).now → IsUnchanged (state g mid) (state g new) → IsUnchanged (state g old) (state g new)
  unchanged_on clean has h = on_first (λ e. subst (λ x. IsUnchanged (state g x) (state g new)) e h) (λ more. unchanged_then (state g old) (state g mid) (state g new) (run.same clean has more) h)

  survives_on : Survives (state g mid) (state g new) (λ _. ⊥) → Survives (state g old) (state g new) (λ _. ⊥)
  survives_on = survives_then (state g old) (state g mid) (state g new) (λ _. ⊥) (λ _. ⊥) (λ _. ⊥) (λ _ db none. none) (λ _ db none. none) run.survives

  abbrev Found : Trees → Vec Row Global → Type 0
  Found db rows = Lists transmissions (has_key (Text sender ∷ Int (pos number) ∷ [])) 2 db rows.items

  -- a failure of the next reading
  pub run_told : (refusal : F → Row → RowFault → Type 0) (fault : RowFault) (result : Result (Unit {0}) RowFault) → IsErrAnd result (λ e. e ≡ fault) → Survives (state g mid) (state g new) (λ _. ⊥)
      → OnlyFails {X = Vec Row Global} (state g mid) (state g new) (Err fault) → IfErr result (StopsRun step refusal (state g old) (state g new) sender first begun)
  run_told refusal fault (Ok x) is survives told = tt
  run_told refusal fault (Err e) is survives told = record {
    why = inl (λ clean has. subst IsFailure (sym is) (told clean (subst HasLayout (sym (seen_now (early survives clean) has)) has)));
  }

  -- why a reading may fail after those before it
  may_fail_on : Survives (state g mid) (state g new) (λ _. ⊥) → HasCleanDisk (state g new) → MayFail (state g mid) (state g new) → MayFail (state g old) (state g new)
  may_fail_on survives clean (inl fails) = inl (let first_up = run.survives.counts in omega (arith, first_up, fails))
  may_fail_on survives clean (inr (inr limit)) = inr (inr (subst (λ (l : Option ℕ). IsSome l) run.survives.limit limit))
  may_fail_on survives clean (inr (inl shut)) = elim (cases_Bool (state g old).is_open) [
    | inl was ↦ elim (run.survives.closes (early survives clean) was) [
      | inl still ↦ absurd (true≢false (sym still ∙ shut))
      | inr fails ↦ inl (let up = survives.counts in omega (arith, up, fails))
    ]
    | inr none ↦ inr (inl none)
  ]

  -- so the medium may have failed where it errs
  pub run_by_medium : (fault : RowFault) (result : Result (Unit {0}) RowFault) → IsErrAnd result (λ e. e ≡ fault) → Survives (state g mid) (state g new) (λ _. ⊥)
      → ErrsByMedium {X = Vec Row Global} (state g mid) (state g new) (Err fault) → ErrsByMedium (state g old) (state g new) result
  run_by_medium fault (Ok x) is survives medium clean has = tt
  run_by_medium fault (Err e) is survives medium clean has = elim (medium clean (subst HasLayout (sym (seen_now (early survives clean) has)) has)) [
    | inl short ↦ inl (is ∙ short)
    | inr may ↦ inr (may_fail_on survives clean may)
  ]

  module _ (rows : Vec Row Global) (read : Reads (state g mid) (state g new) (Ok rows) Found) where
    -- what was found is what stands in the first state
    found_first : HasCleanDisk (state g new) → HasLayout (state g old).now → Found (state g old).now.trees rows
    found_first clean has =
        let seen = seen_now (early read.survives clean) has in
        subst (λ (d : Database). Found d.trees rows) seen (read.found clean (subst HasLayout (sym seen) has))

    pub same_first : HasCleanDisk (state g new) → HasLayout (state g old).now → IsUnchanged (state g old) (state g new)
    same_first clean has =
        let was = early read.survives clean in
        unchanged_on was has (read.same clean (subst HasLayout (sym (seen_now was has)) has))

    inside_on : HasCleanDisk (state g new) → IsTrue (state g old).in_transaction → IsTrue (state g new).in_transaction
    inside_on clean inside = read.inside clean (run.inside (early read.survives clean) inside)

    kept_on : HasCleanDisk (state g new) → IsTrue (state g old).in_transaction → KeepsCommit (state g old) (state g new)
    kept_on clean inside =
        let was = early read.survives clean in
        keeps_then (state g old) (state g mid) (state g new) (run.kept was inside) (read.kept clean (run.inside was inside))

    run_more : (row : Row) → rows.items ≡ row ∷ [] → (given : List Row) → length given + first ≡ number → AreFirstOfRun (state g old) (state g mid) sender first given → AreFirstOfRun (state g old) (state g new) sender first (given ++ row ∷ [])
    run_more row one given long each clean has =
        are_from_then sender first number (state g old).now.trees given row (each (early read.survives clean) has) long (subst (Lists transmissions (has_key (Text sender ∷ Int (pos number) ∷ [])) 2 (state g old).now.trees) one (found_first clean has))

    pub runs_on : (row : Row) (next : F) → rows.items ≡ row ∷ [] → next ≡ step now row → HasRunTo g step sender old new first (number + 1) begun next
    runs_on row next one is = record {
      start = λ e. absurd (omega arith);
      survives = survives_on read.survives;
      inside = inside_on;
      kept = kept_on;
      same = λ clean has more. same_first clean has;
      gone = takes_row step _ _ begun now next row (λ given h. (omega (arith, length-append given (row ∷ []), h.0), run_more row one given h.0 h.1)) run.gone is;
    }

    pub run_refuses : (row : Row) (refusal : F → Row → RowFault → Type 0) (result : Result (Unit {0}) RowFault) → rows.items ≡ row ∷ [] → IfErr result (refusal now row)
        → IfErr result (RefusesRow step refusal (AreFirstOfRun (state g old) (state g new) sender first) begun)
    run_refuses row refusal (Ok x) one told = tt
    run_refuses row refusal (Err fault) one told =
        let gone = run.gone in
        record { before = gone.rows; row = row; first = run_more row one gone.rows gone.these.0 gone.these.1; refused = subst (λ f. refusal f row fault) gone.folded told }

    pub run_refused : (row : Row) (refusal : F → Row → RowFault → Type 0) (result : Result (Unit {0}) RowFault) → rows.items ≡ row ∷ [] → IfErr result (refusal now row)
        → IfErr result (StopsRun step refusal (state g old) (state g new) sender first begun)
    run_refused row refusal (Ok x) one told = tt
    run_refused row refusal (Err fault) one told = record { why = inr (inl (run_refuses row refusal (Err fault) one told)) }

    -- what has gone over the rows took no more
    pub run_stops : (result : Result (Unit {0}) RowFault) → IsErr result → (Any : Trees → Unit {0} → Type 0) → ReadsInside (state g old) (state g new) result Any
    run_stops (Ok x) is Any = absurd cc
    run_stops (Err e) is Any = record {
      found = λ clean has. tt;
      same = λ clean has. tt;
      whole = λ clean has. inl (same_first clean has);
      inside = λ clean inside. tt;
      kept = kept_on;
      survives = survives_on read.survives;
    }

    pub no_run_doubled : 2 ≤ length rows.items → IsNoRun (state g old) (state g new) sender first
    no_run_doubled several =
        let gone = run.gone in
        let there : HasCleanDisk (state g new) → HasLayout (state g old).now → AreDoubled sender first (state g old).now.trees =
        λ clean has. record {
          before = gone.rows;
          each = gone.these.1 (early read.survives clean) has;
          rows = rows.items;
          there = subst (λ n. Lists transmissions (has_key (Text sender ∷ Int (pos n) ∷ [])) 2 (state g old).now.trees rows.items) (sym gone.these.0) (found_first clean has);
          several = several;
        } in
        λ clean has. inl (there clean has)

    pub run_doubled : (refusal : F → Row → RowFault → Type 0) → 2 ≤ length rows.items → StopsRun step refusal (state g old) (state g new) sender first begun Damaged
    run_doubled refusal several = record { why = inr (inr (refl, no_run_doubled several)) }

    pub run_ends : rows.items ≡ [] → ReadsInside {X = Unit {0}} (state g old) (state g new) (Ok tt) (λ db _. HasTaken step (IsRun sender first db) begun now)
    run_ends none = record {
      found = λ clean has.
          taken_as step _ _ begun now
          (λ given h. record {
            each = h.1 (early read.survives clean) has;
            gap = subst (λ n. Lists transmissions (has_key (Text sender ∷ Int (pos n) ∷ [])) 2 (state g old).now.trees []) (sym h.0)
                (subst (Lists transmissions (has_key (Text sender ∷ Int (pos number) ∷ [])) 2 (state g old).now.trees) none (found_first clean has));
          })
          run.gone;
      same = same_first;
      whole = λ clean has. tt;
      inside = inside_on;
      kept = kept_on;
      survives = survives_on read.survives;
    }

-- no number is left
pub run_overflows : {S : Type 0} (g : Ghosts S) {F : Type 0} (step : F → Row → F) (sender : List ℕ) (old new : Held S) (first number : ℕ) (begun now : F) → first < number
    → HasRunTo g step sender old new first number begun now → (fault : RowFault) (Any : Trees → Unit {0} → Type 0) → ReadsInside (state g old) (state g new) (Err fault) Any
run_overflows g step sender old new first number begun now more run fault Any = record {
  found = λ clean has. tt;
  same = λ clean has. tt;
  whole = λ clean has. inl (run.same clean has more);
  inside = λ clean inside. tt;
  kept = run.kept;
  survives = run.survives;
}

-- every number from the first on is there
pub no_run_filled : {S : Type 0} (g : Ghosts S) {F : Type 0} (step : F → Row → F) (sender : List ℕ) (old new : Held S) (first number : ℕ) (begun now : F) → number ≡ 2 ^ 32
    → HasRunTo g step sender old new first number begun now → IsNoRun (state g old) (state g new) sender first
no_run_filled g step sender old new first number begun now all run =
    let gone = run.gone in
    λ clean has. inr (record { rows = gone.rows; each = gone.these.1 clean has; full = gone.these.0 ∙ all })

pub run_fills : {S : Type 0} (g : Ghosts S) {F : Type 0} (step : F → Row → F) (refusal : F → Row → RowFault → Type 0) (sender : List ℕ) (old new : Held S) (first number : ℕ) (begun now : F) → number ≡ 2 ^ 32
    → HasRunTo g step sender old new first number begun now → StopsRun step refusal (state g old) (state g new) sender first begun Damaged
run_fills g step refusal sender old new first number begun now all run =
    record { why = inr (inr (refl, no_run_filled g step sender old new first number begun now all run)) }

-- no row

pub none_there : (rows : List Row) → length rows < 1 → rows ≡ []
none_there [] short = refl
none_there (r ∷ rows) short = absurd (omega arith)
