-- Statements that judge the rows, one after another, and what is worked out of what they read; among them those that read alone.
use Rattle.std.proofs.Common.{◌≡◌, ◌∙◌, Result, Ok, Err, IfErr, IfOk, refl, subst, sym}
use Rattle.std.specs.Result.{IsErrAnd}
use Rattle.sqlite.specs.Effect.{Database}
use Rattle.sqlite.specs.State.{HasCleanDisk, State}
use Rattle.sqlite_trees.specs.Tree.{Trees}
use Rattle.society_rows.specs.Effects.{Errs, ErrsByMedium, FaultSays, OnlyFails}
use Rattle.society_rows.specs.Reads.{Reads}
use Rattle.society_rows.specs.declared.fault.RowFault.{RowFault}
use Rattle.society_book.proofs.lemmas.together.ErrLemmas.{errs_of, errs_on, errs_where, says_judged, says_on}
use Rattle.society_book.proofs.lemmas.together.StepLemmas.{does_also, does_as, does_not, does_nothing, does_then, looks_of, more, was_clean}
use Rattle.society_book.specs.Errors.{Blames}
use Rattle.society_book.specs.Steps.{Examines, Judged, Looks, Never}

-- ---- statements

-- no statement
pub judged_nothing : {X : Type 0} (Wrong : Trees → Type 0) (s : State) (x : X) (A : Database → Database → X → Type 0) → A s.now s.now x → Judged Wrong s s (Ok x) A
judged_nothing Wrong s x A holds = record { does = does_nothing s (Ok x) A (λ has. holds); faults = λ clean inside has. tt }

-- statements, and then others: what is wrong of the later is wrong by what is said of the first
pub judged_then : {X Y : Type 0} (First Later Wrong : Trees → Type 0) (old mid new : State) (x : X) (r : Result Y RowFault) (A : Database → Database → X → Type 0) (B C : Database → Database → Y → Type 0)
    → Judged First old mid (Ok x) A → Judged Later mid new r B → ((y : Y) → A old.now mid.now x → B mid.now new.now y → C old.now new.now y)
    → (A old.now mid.now x → Later mid.now.trees → Wrong old.now.trees) → Judged Wrong old new r C
judged_then {X} {Y} First Later Wrong old mid new x r A B C first second follows denies = record {
  does = does_then old mid new x r A B C first.does second.does follows;
  faults = λ clean inside has.
      let was = was_clean mid new second.does.survives clean in
      errs r was (first.does.says was inside has) (second.faults clean (first.does.inside was inside) (first.does.layout was inside has));
}
  where
    errs : (z : Result Y RowFault) → HasCleanDisk mid → A old.now mid.now x → IfErr z (FaultSays Later mid new) → IfErr z (FaultSays Wrong old new)
    errs (Ok y) was one h = tt
    errs (Err e) was one h = says_on Wrong Later old mid new e first.does.survives was second.does.survives.counts (denies one) h

-- what is worked out of what is said
pub judged_as : {X Y : Type 0} (First Wrong : Trees → Type 0) (old new : State) (x : X) (r : Result Y RowFault) (A : Database → Database → X → Type 0) (B : Database → Database → Y → Type 0)
    → Judged First old new (Ok x) A → (A old.now new.now x → IfOk r (B old.now new.now)) → (A old.now new.now x → IfErr r (Blames (Wrong old.now.trees))) → Judged Wrong old new r B
judged_as {X} {Y} First Wrong old new x r A B first follows blames = record {
  does = does_as old new x r A B first.does follows;
  faults = λ clean inside has. errs r (blames (first.does.says clean inside has));
}
  where
    errs : (z : Result Y RowFault) → IfErr z (Blames (Wrong old.now.trees)) → IfErr z (FaultSays Wrong old new)
    errs (Ok y) h = tt
    errs (Err e) h = says_judged Wrong old new e h

-- a fault that is handed on
pub judged_not : {X Y : Type 0} (First Wrong : Trees → Type 0) (old new : State) (fault : RowFault) (r : Result Y RowFault) (A : Database → Database → X → Type 0) (B : Database → Database → Y → Type 0)
    → Judged {X = X} First old new (Err fault) A → IsErrAnd r (λ e. e ≡ fault) → (First old.now.trees → Wrong old.now.trees) → Judged Wrong old new r B
judged_not First Wrong old new fault (Ok y) A B first is also = absurd is
judged_not {X} {Y} First Wrong old new fault (Err e) A B first is also = record {
  does = does_not old new e fault A B first.does;
  faults = errs_on X {Y = Y} First Wrong old new fault (Err e) first.faults is also;
}

-- what is said follows
pub judged_also : {X : Type 0} (First Wrong : Trees → Type 0) (old new : State) (r : Result X RowFault) (A B : Database → Database → X → Type 0) → Judged First old new r A
    → ((x : X) → A old.now new.now x → B old.now new.now x) → (First old.now.trees → Wrong old.now.trees) → Judged Wrong old new r B
judged_also First Wrong old new r A B first follows also = record { does = does_also old new r A B first.does follows; faults = errs_where First Wrong old new r first.faults also }

-- ---- readings

-- what was read, or why it could not be
pub examines_of : {X : Type 0} (Wrong : Trees → Type 0) (old new : State) (r : Result X RowFault) (A : Trees → X → Type 0) → Looks old new r A → Errs Wrong old new r → Examines Wrong old new r A
examines_of Wrong old new r A looks errs = record { does = looks; faults = errs }

pub examines_looks : {X : Type 0} (Wrong : Trees → Type 0) (old new : State) (x : X) (A : Trees → X → Type 0) → Looks old new (Ok x) A → Examines Wrong old new (Ok x) A
examines_looks Wrong old new x A looks = examines_of Wrong old new (Ok x) A looks (λ clean inside has. tt)

-- one statement
pub examines_reads : {X : Type 0} (old new : State) (r : Result X RowFault) (A : Trees → X → Type 0) → Reads old new r A → OnlyFails old new r → ErrsByMedium old new r → Examines Never old new r A
examines_reads old new r A reads told medium = examines_of Never old new r A (looks_of old new r A reads) (errs_of Never old new r told medium)

-- no statement
pub examines_nothing : {X : Type 0} (Wrong : Trees → Type 0) (s : State) (x : X) (A : Trees → X → Type 0) → A s.now.trees x → Examines Wrong s s (Ok x) A
examines_nothing Wrong s x A holds = judged_nothing Wrong s x (λ before after x. (after ≡ before) × A before.trees x) (refl, holds)

-- examinations, and then others: what is wrong of the later is wrong by what the first found
pub examines_then : {X Y : Type 0} (First Later Wrong : Trees → Type 0) (old mid new : State) (x : X) (r : Result Y RowFault) (A : Trees → X → Type 0) (B C : Trees → Y → Type 0)
    → Examines First old mid (Ok x) A → Examines Later mid new r B → ((y : Y) → A old.now.trees x → B old.now.trees y → C old.now.trees y) → (A old.now.trees x → Later old.now.trees → Wrong old.now.trees)
    → Examines Wrong old new r C
examines_then {X} {Y} First Later Wrong old mid new x r A B C first second follows denies =
    judged_then First Later Wrong old mid new x r (λ before after x. (after ≡ before) × A before.trees x) (λ before after y. (after ≡ before) × B before.trees y) (λ before after y. (after ≡ before) × C before.trees y) first second
    (λ y one two. (two.0 ∙ one.0, follows y one.1 (subst (λ (db : Database). B db.trees y) one.0 two.1)))
    (λ one wrong. denies one.1 (subst (λ (db : Database). Later db.trees) one.0 wrong))

-- what is worked out of what was read
pub examines_as : {X Y : Type 0} (First Wrong : Trees → Type 0) (old new : State) (x : X) (r : Result Y RowFault) (A : Trees → X → Type 0) (B : Trees → Y → Type 0)
    → Examines First old new (Ok x) A → (A old.now.trees x → IfOk r (B old.now.trees)) → (A old.now.trees x → IfErr r (Blames (Wrong old.now.trees))) → Examines Wrong old new r B
examines_as First Wrong old new x r A B first follows blames =
    judged_as First Wrong old new x r (λ before after x. (after ≡ before) × A before.trees x) (λ before after y. (after ≡ before) × B before.trees y) first
    (λ one. more r (λ y here. (one.0, here)) (follows one.1)) (λ one. blames one.1)

-- a fault that is handed on
pub examines_not : {X Y : Type 0} (First Wrong : Trees → Type 0) (old new : State) (fault : RowFault) (r : Result Y RowFault) (A : Trees → X → Type 0) (B : Trees → Y → Type 0) → Examines {X = X} First old new (Err fault) A → IsErrAnd r (λ e. e ≡ fault) → (First old.now.trees → Wrong old.now.trees) → Examines Wrong old new r B
examines_not {X} {Y} First Wrong old new fault r A B first is also =
    judged_not {X = X} First Wrong old new fault r (λ before after x. (after ≡ before) × A before.trees x) (λ before after y. (after ≡ before) × B before.trees y) first is also

-- what is said follows
pub examines_also : {X : Type 0} (First Wrong : Trees → Type 0) (old new : State) (r : Result X RowFault) (A B : Trees → X → Type 0) → Examines First old new r A → ((x : X) → A old.now.trees x → B old.now.trees x) → (First old.now.trees → Wrong old.now.trees) → Examines Wrong old new r B
examines_also First Wrong old new r A B first follows also =
    judged_also First Wrong old new r (λ before after x. (after ≡ before) × A before.trees x) (λ before after x. (after ≡ before) × B before.trees x) first (λ x one. (one.0, follows x one.1)) also
