-- Statements of one transaction over a database of some kind, one after another.
use Rattle.std.proofs.Common.{◌≡◌, Result, Ok, Err, IfOk, IsErr, OnOk}
use Rattle.std.proofs.lemmas.Bool.{false≢true}
use Rattle.sqlite.proofs.InsideLemmas.{keeps_then}
use Rattle.sqlite.specs.Effect.{Database}
use Rattle.sqlite.specs.State.{IsUnchanged, State}
use Rattle.sqlite_trees.specs.Tree.{Trees}
use Rattle.society_rows.specs.Effects.{WritesOver}
use Rattle.society_rows.specs.Reads.{ReadsOver}
use Rattle.society_rows.specs.Stored.{HasLayout}
use Rattle.society_rows.specs.declared.fault.RowFault.{RowFault}
use Rattle.society_book.proofs.lemmas.together.StepLemmas.{more, survives_on, was_clean}
use Rattle.society_book.specs.Steps.{Examines}
use Rattle.share_rules.specs.declared.office.Office.{Office}
use Rattle.society_rows.specs.Layouts.{HasOlder, HasTable, number_of}
use Rattle.society_rows.specs.declared.older.OlderLayout.{OlderLayout}
use Rattle.society_rows.specs.declared.tables.TableName.TheVariants as name
use Rattle.society_opening.specs.declared.open_fault.OpenFault.{OpenFault}
use Rattle.society_opening.proofs.lemmas.opened.OpenTold.{has_office}
use Rattle.society_opening.specs.TakingOver.{DoesOver, IsOffice}
use Rattle.book_derivation.specs.Deriving.{Derives, KeepsOwn}

on_ok : {X E : Type 0} (r : Result X E) {P : Type 0} → P → OnOk r P
on_ok (Ok x) h = h
on_ok (Err e) h = tt

-- statements that write what is derived
pub over_derives : {X : Type 0} (Wrong : Trees → Type 0) (old new : State) (r : Result X RowFault) (Says : Trees → Trees → X → Type 0) → Derives Wrong old new r Says
    → DoesOver HasLayout old new r (λ before after x. HasLayout after × KeepsOwn before.trees after.trees × Says before.trees after.trees x)
over_derives {X} Wrong old new r Says derives = record {
  says = λ clean inside has. laid r (derives.does.layout clean inside has) (derives.does.says clean inside has);
  inside = derives.does.inside;
  kept = derives.does.kept;
  survives = derives.does.survives;
}
  where
    laid : (z : Result X RowFault) → OnOk z (HasLayout new.now) → IfOk z (λ x. KeepsOwn old.now.trees new.now.trees × Says old.now.trees new.now.trees x) → IfOk z (λ x. HasLayout new.now × KeepsOwn old.now.trees new.now.trees × Says old.now.trees new.now.trees x)
    laid (Ok x) has says = (has, says.0, says.1)
    laid (Err e) has says = tt

pub over_writes : (Was : Database → Type 0) (old new : State) (r : Result (Unit {0}) RowFault) (Change : Database → Database → Type 0) → WritesOver Was old new r Change → DoesOver Was old new r (λ before after _. Change before after)
over_writes Was old new r Change writes = record { says = λ clean inside was. says r (writes.change clean inside was); inside = writes.inside; kept = writes.kept; survives = writes.survives }
  where
    says : (z : Result (Unit {0}) RowFault) → OnOk z (Change old.now new.now) → IfOk z (λ _. Change old.now new.now)
    says (Ok x) h = h
    says (Err e) h = tt

-- a reading of a database of some kind
pub over_reads : {X : Type 0} (Was : Database → Type 0) (old new : State) (r : Result X RowFault) (Found : Trees → X → Type 0) → ReadsOver Was old new r Found → DoesOver Was old new r (λ before after x. (after ≡ before) × Found before.trees x)
over_reads {X} Was old new r Found reads = record { says = λ clean inside was. both r (reads.same clean was) (reads.found clean was); inside = reads.inside; kept = reads.kept; survives = reads.survives }
  where
    both : (z : Result X RowFault) → OnOk z (IsUnchanged old new) → IfOk z (Found old.now.trees) → IfOk z (λ x. (new.now ≡ old.now) × Found old.now.trees x)
    both (Ok x) same found = (same.0.now_is, found)
    both (Err e) same found = tt

-- an answer is told alike, whatever a fault would be
pub over_retold : {X D E : Type 0} (Was : Database → Type 0) (old new : State) (x : X) (A : Database → Database → X → Type 0) → DoesOver {E = D} Was old new (Ok x) A → DoesOver {E = E} Was old new (Ok x) A
over_retold Was old new x A first = record { says = first.says; inside = first.inside; kept = first.kept; survives = first.survives }

-- statements, and then others
pub over_then : {X Y D E : Type 0} (Was Is : Database → Type 0) (old mid new : State) (x : X) (r : Result Y E) (A : Database → Database → X → Type 0) (B C : Database → Database → Y → Type 0) → DoesOver {E = D} Was old mid (Ok x) A
    → (Was old.now → A old.now mid.now x → Is mid.now) → DoesOver Is mid new r B → ((y : Y) → A old.now mid.now x → B mid.now new.now y → C old.now new.now y) → DoesOver Was old new r C
over_then Was Is old mid new x r A B C first turns second follows =
    let was = was_clean mid new second.survives in
    record {
      says = λ clean inside has.
          let said = first.says (was clean) inside has in
          more r (λ y. follows y said) (second.says clean (first.inside (was clean) inside) (turns has said));
      inside = λ clean inside. second.inside clean (first.inside (was clean) inside);
      kept = λ clean inside. keeps_then old mid new (first.kept (was clean) inside) (second.kept clean (first.inside (was clean) inside));
      survives = survives_on old mid new first.survives second.survives;
    }

-- what is worked out of an answer
pub over_as : {X Y D E : Type 0} (Was : Database → Type 0) (old new : State) (x : X) (r : Result Y E) (A : Database → Database → X → Type 0) (B : Database → Database → Y → Type 0) → DoesOver {E = D} Was old new (Ok x) A
    → (A old.now new.now x → IfOk r (B old.now new.now)) → DoesOver Was old new r B
over_as Was old new x r A B first follows = record {
  says = λ clean inside has. follows (first.says clean inside has);
  inside = λ clean inside. on_ok r (first.inside clean inside);
  kept = first.kept;
  survives = first.survives;
}

-- statements that failed
pub over_not : {X Y D E : Type 0} (Was : Database → Type 0) (old new : State) (f : D) (r : Result Y E) (A : Database → Database → X → Type 0) (B : Database → Database → Y → Type 0) → DoesOver {X = X} Was old new (Err f) A → IsErr r → DoesOver Was old new r B
over_not Was old new f (Ok y) A B first is = absurd (false≢true is)
over_not Was old new f (Err e) A B first is = record { says = λ clean inside has. tt; inside = λ clean inside. tt; kept = first.kept; survives = first.survives }

-- statements that failed after others
pub over_fails : {X Y Z D E F : Type 0} (Was Is : Database → Type 0) (old mid new : State) (x : X) (f : E) (r : Result Z F) (A : Database → Database → X → Type 0) (B : Database → Database → Y → Type 0) (C : Database → Database → Z → Type 0)
    → DoesOver {E = D} Was old mid (Ok x) A → (Was old.now → A old.now mid.now x → Is mid.now) → DoesOver {X = Y} Is mid new (Err f) B → IsErr r → DoesOver Was old new r C
over_fails Was Is old mid new x f r A B C first turns second is = over_not Was old new f r (λ _ _ _. Unit {0}) C (over_then Was Is old mid new x (Err f) A B (λ _ _ _. Unit {0}) first turns second (λ y one two. tt)) is

-- what is examined is as it was
pub over_examined : {X : Type 0} (Wrong : Trees → Type 0) (old new : State) (r : Result X RowFault) (A : Trees → X → Type 0) → Examines Wrong old new r A → DoesOver HasLayout old new r (λ before after x. (after ≡ before) × A before.trees x)
over_examined Wrong old new r A examined = record { says = examined.does.says; inside = examined.does.inside; kept = examined.does.kept; survives = examined.does.survives }

-- what is said of databases of a kind is said of those of a narrower one
pub over_where : {X E : Type 0} (Was Is : Database → Type 0) (old new : State) (r : Result X E) (A : Database → Database → X → Type 0) → ((db : Database) → Is db → Was db) → DoesOver Was old new r A → DoesOver Is old new r A
over_where Was Is old new r A also first = record { says = λ clean inside is. first.says clean inside (also old.now is); inside = first.inside; kept = first.kept; survives = first.survives }

-- so of the office of older tables
pub agreed : (l : OlderLayout) (old new : State) (r : Result (Unit {0}) OpenFault) (o : Office) → DoesOver (HasTable name.Office) old new r (IsOffice o (number_of l)) → DoesOver (HasOlder l) old new r (IsOffice o (number_of l))
agreed l old new r o = over_where (HasTable name.Office) (HasOlder l) old new r (IsOffice o (number_of l)) (has_office l)
