-- Statements of one transaction, one after another.
use Rattle.std.proofs.Common.{◌≡◌, ◌∙◌, Result, Ok, Err, IfOk, OnOk, inl, refl, sym, subst, arith}
use Rattle.sqlite.proofs.InsideLemmas.{keeps_then}
use Rattle.sqlite.proofs.StateLemmas.{survives_then}
use Rattle.sqlite.specs.Effect.{Database}
use Rattle.sqlite.specs.State.{HasCleanDisk, IsUnchanged, State, Survives}
use Rattle.sqlite_trees.specs.Tree.{Trees}
use Rattle.society_rows.specs.Effects.{Writes}
use Rattle.society_rows.specs.Folds.{ReadsInside}
use Rattle.society_rows.specs.Reads.{Reads}
use Rattle.society_rows.specs.Stored.{HasLayout}
use Rattle.society_rows.specs.declared.fault.RowFault.{RowFault}
use Rattle.society_book.specs.Steps.{Does, DoesOpen, Looks}

-- of what no statement did nothing is lost
pub still : (s : State) → Survives s s (λ _. ⊥)
still s = record { clean = omega arith; shield = λ h. h; counts = omega arith; limit = refl; closes = λ clean was. inl was; crash = λ clean db h. inl h }

pub survives_on : (old mid new : State) → Survives old mid (λ _. ⊥) → Survives mid new (λ _. ⊥) → Survives old new (λ _. ⊥)
survives_on old mid new = survives_then old mid new (λ _. ⊥) (λ _. ⊥) (λ _. ⊥) (λ clean db never. never) (λ clean db never. never)

pub was_clean : (mid new : State) → Survives mid new (λ _. ⊥) → HasCleanDisk new → HasCleanDisk mid
was_clean mid new survives clean = (let fell = survives.clean in omega (clean, fell, arith))

-- what follows of an answer that may be an error
pub more : {X E : Type 0} (r : Result X E) {P Q : X → Type 0} → ((x : X) → P x → Q x) → IfOk r P → IfOk r Q
more (Ok x) follows h = follows x h
more (Err e) follows h = tt

pub on_ok : {X : Type 0} (r : Result X RowFault) {P : Type 0} → P → OnOk r P
on_ok (Ok x) h = h
on_ok (Err e) h = tt

on_both : {X : Type 0} (r : Result X RowFault) {P Q : Type 0} → (P → Q) → OnOk r P → OnOk r Q
on_both (Ok x) f h = f h
on_both (Err e) f h = tt

-- no statement
pub does_nothing : {X : Type 0} (s : State) (r : Result X RowFault) (A : Database → Database → X → Type 0) → (HasLayout s.now → IfOk r (A s.now s.now)) → Does s s r A
does_nothing s r A h = record {
  says = λ clean inside has. h has;
  layout = λ clean inside has. on_ok r has;
  inside = λ clean inside. on_ok r inside;
  kept = λ clean inside. record { was_open = λ h. h; committed = λ h. refl };
  survives = still s;
}

pub nothing : {X : Type 0} (s : State) (r : Result X RowFault) (A : Trees → X → Type 0) → IfOk r (A s.now.trees) → Looks s s r A
nothing s r A h = does_nothing s r (λ before after x. (after ≡ before) × A before.trees x) (λ has. more r (λ x a. (refl, a)) h)

-- statements, and then others
pub does_then : {X Y : Type 0} (old mid new : State) (x : X) (r : Result Y RowFault) (A : Database → Database → X → Type 0) (B C : Database → Database → Y → Type 0) → Does old mid (Ok x) A → Does mid new r B → ((y : Y) → A old.now mid.now x → B mid.now new.now y → C old.now new.now y) → Does old new r C
does_then old mid new x r A B C first second follows =
    let was = was_clean mid new second.survives in
    record {
      says = λ clean inside has. more r (λ y. follows y (first.says (was clean) inside has)) (second.says clean (first.inside (was clean) inside) (first.layout (was clean) inside has));
      layout = λ clean inside has. second.layout clean (first.inside (was clean) inside) (first.layout (was clean) inside has);
      inside = λ clean inside. second.inside clean (first.inside (was clean) inside);
      kept = λ clean inside. keeps_then old mid new (first.kept (was clean) inside) (second.kept clean (first.inside (was clean) inside));
      survives = survives_on old mid new first.survives second.survives;
    }

-- statements, and then what is worked out of their answer
pub does_as : {X Y : Type 0} (old new : State) (x : X) (r : Result Y RowFault) (A : Database → Database → X → Type 0) (B : Database → Database → Y → Type 0) → Does old new (Ok x) A → (A old.now new.now x → IfOk r (B old.now new.now)) → Does old new r B
does_as old new x r A B first follows = record {
  says = λ clean inside has. follows (first.says clean inside has);
  layout = λ clean inside has. on_ok r (first.layout clean inside has);
  inside = λ clean inside. on_ok r (first.inside clean inside);
  kept = first.kept;
  survives = first.survives;
}

-- statements that failed
pub does_not : {X Y : Type 0} (old new : State) (fault : RowFault) (e : RowFault) (A : Database → Database → X → Type 0) (B : Database → Database → Y → Type 0) → Does {X = X} old new (Err e) A → Does {X = Y} old new (Err fault) B
does_not old new fault e A B first = record {
  says = λ clean inside has. tt;
  layout = λ clean inside has. tt;
  inside = λ clean inside. tt;
  kept = first.kept;
  survives = first.survives;
}

-- what is said follows
pub does_also : {X : Type 0} (old new : State) (r : Result X RowFault) (A B : Database → Database → X → Type 0) → Does old new r A → ((x : X) → A old.now new.now x → B old.now new.now x) → Does old new r B
does_also old new r A B first follows = record {
  says = λ clean inside has. more r follows (first.says clean inside has);
  layout = first.layout;
  inside = first.inside;
  kept = first.kept;
  survives = first.survives;
}

-- a reading
pub looks_of : {X : Type 0} (old new : State) (r : Result X RowFault) (A : Trees → X → Type 0) → Reads old new r A → Looks old new r A
looks_of {X} old new r A reads = record {
  says = λ clean inside has. both r (reads.same clean has) (reads.found clean has);
  layout = λ clean inside has. on_both r (λ same. subst HasLayout (sym same.0.now_is) has) (reads.same clean has);
  inside = reads.inside;
  kept = reads.kept;
  survives = reads.survives;
}
  where
    both : (z : Result X RowFault) → OnOk z (IsUnchanged old new) → IfOk z (A old.now.trees) → IfOk z (λ x. (new.now ≡ old.now) × A old.now.trees x)
    both (Ok x) same found = (same.0.now_is, found)
    both (Err e) same found = tt

-- so with rows that are gone over one at a time
pub looks_inside : {X : Type 0} (old new : State) (r : Result X RowFault) (A : Trees → X → Type 0) → ReadsInside old new r A → Looks old new r A
looks_inside {X} old new r A reads = record {
  says = λ clean inside has. both r (reads.same clean has) (reads.found clean has);
  layout = λ clean inside has. on_both r (λ same. subst HasLayout (sym same.0.now_is) has) (reads.same clean has);
  inside = reads.inside;
  kept = reads.kept;
  survives = reads.survives;
}
  where
    both : (z : Result X RowFault) → OnOk z (IsUnchanged old new) → IfOk z (A old.now.trees) → IfOk z (λ x. (new.now ≡ old.now) × A old.now.trees x)
    both (Ok x) same found = (same.0.now_is, found)
    both (Err e) same found = tt

-- a writing
pub does_of : {X : Type 0} (old new : State) (r : Result X RowFault) (Change : Database → Database → Type 0) → Writes old new r Change → ((before after : Database) → Change before after → HasLayout after) → Does old new r (λ before after _. Change before after)
does_of {X} old new r Change writes keeps = record {
  says = λ clean inside has. says r (writes.change clean inside has);
  layout = λ clean inside has. on_both r (keeps old.now new.now) (writes.change clean inside has);
  inside = writes.inside;
  kept = writes.kept;
  survives = writes.survives;
}
  where
    says : (z : Result X RowFault) → OnOk z (Change old.now new.now) → IfOk z (λ _. Change old.now new.now)
    says (Ok x) h = h
    says (Err e) h = tt

-- readings, and then others
pub looks_then : {X Y : Type 0} (old mid new : State) (x : X) (r : Result Y RowFault) (A : Trees → X → Type 0) (B C : Trees → Y → Type 0) → Looks old mid (Ok x) A → Looks mid new r B → ((y : Y) → A old.now.trees x → B old.now.trees y → C old.now.trees y) → Looks old new r C
looks_then old mid new x r A B C first second follows =
    does_then old mid new x r _ _ (λ before after y. (after ≡ before) × C before.trees y) first second
    (λ y one two. (two.0 ∙ one.0, follows y one.1 (subst (λ (db : Database). B db.trees y) one.0 two.1)))

-- a reading, and what is worked out of its rows
pub looks_as : {X Y : Type 0} (old new : State) (x : X) (r : Result Y RowFault) (A : Trees → X → Type 0) (B : Trees → Y → Type 0) → Looks old new (Ok x) A → (A old.now.trees x → IfOk r (B old.now.trees)) → Looks old new r B
looks_as old new x r A B first follows = does_as old new x r _ (λ before after y. (after ≡ before) × B before.trees y) first (λ both. more r (λ y b. (both.0, b)) (follows both.1))

-- statements that an open connection alone answers, and then others
pub does_open_then : {X Y : Type 0} (old mid new : State) (x : X) (r : Result Y RowFault) (A : Database → Database → X → Type 0) (B C : Database → Database → Y → Type 0) → DoesOpen old mid (Ok x) A → Does mid new r B → ((y : Y) → A old.now mid.now x → B mid.now new.now y → C old.now new.now y) → DoesOpen old new r C
does_open_then old mid new x r A B C first second follows = record {
  does = does_then old mid new x r A B C first.does second follows;
  answered = λ clean inside. on_ok r (first.answered (was_clean mid new second.survives clean) inside);
}

-- statements, and then others that an open connection alone answers
pub does_then_open : {X Y : Type 0} (old mid new : State) (x : X) (r : Result Y RowFault) (A : Database → Database → X → Type 0) (B C : Database → Database → Y → Type 0) → Does old mid (Ok x) A → DoesOpen mid new r B → ((y : Y) → A old.now mid.now x → B mid.now new.now y → C old.now new.now y) → DoesOpen old new r C
does_then_open old mid new x r A B C first second follows =
    let was = was_clean mid new second.does.survives in
    record {
      does = does_then old mid new x r A B C first second.does follows;
      answered = λ clean inside. on_both r (first.kept (was clean) inside).was_open (second.answered clean (first.inside (was clean) inside));
    }
