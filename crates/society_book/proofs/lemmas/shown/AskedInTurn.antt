-- Questions that are asked in turn, of which one may fail.
use Rattle.std.proofs.Common.{◌≡◌, Result, Ok, Err, IsErrAnd}
use Rattle.sqlite.specs.State.{State}
use Rattle.sqlite_trees.specs.Tree.{Trees}
use Rattle.society_rows.specs.Questions as Rows
use Rattle.society_rows.specs.declared.fault.RowFault.{RowFault}
use Rattle.society_book.proofs.lemmas.shown.QuestionLemmas.{asked_then}

-- a question that failed behind others
pub failed_behind : {X Y Z : Type 0} (old mid new : State) (x : X) (e fault : RowFault) (r : Result Z RowFault) (Found : Trees → X → Type 0) (IsFound : Trees → Y → Type 0) (Then : Trees → Z → Type 0)
    → IsErrAnd r (λ f. f ≡ fault) → Rows.Asks old mid (Ok x) Found → Rows.Asks {X = Y} mid new (Err e) IsFound → Rows.Asks old new r Then
failed_behind old mid new x e fault (Ok z) Found IsFound Then is first second = absurd is
failed_behind old mid new x e fault (Err f) Found IsFound Then is first second =
    let both = asked_then old mid new x (Err e) Found IsFound (λ db _. Found db x) first second (λ y found next. found) in
    record {
      settled = both.settled;
      found = λ clean has. tt;
      answered = λ clean. tt;
      was_open = both.was_open;
      undone = both.undone;
      survives = both.survives;
    }
