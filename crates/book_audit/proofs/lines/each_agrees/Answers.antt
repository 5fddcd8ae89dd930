use Rattle.std.proofs.Common.{◌≡◌, ◌∙◌, ◌+◌, Err, List, Ok, refl, subst, sym, take, ℕ, true, rules}
use Rattle.std.proofs.lemmas.List.{take_all, take_more}
use Rattle.std.specs.List.{AllByRecursion}
use Rattle.sqlite.specs.Held.{state}
use Rattle.sqlite_keyed.proofs.ListLemmas.{all-append}
use Rattle.sqlite_trees.proofs.ListLemmas.{all-get_or}
use Rattle.society_book.specs.BookRows.{book_of}
use Rattle.society_book.specs.DerivedRows.{knows_sender}
use Rattle.society_book.proofs.lemmas.together.JudgedLemmas.{examines_also, examines_not, examines_nothing, examines_then}
use Rattle.book_audit.specs.Auditing.{HasLine}
use Rattle.book_audit.specs.LineSteps.{DeniesLine, DeniesLines, FindsLine, FindsLines}
use Rattle.book_audit.proofs.lines.each_agrees.Goals as goal

pub loop-sender-init : goal.loop-sender-init
loop-sender-init g c = record {
  same_reference = refl;
  examined = examines_nothing {X = Unit {0}} (DeniesLines c.args.office.now c.args.senders.now) (state g.S.Store c.args.tx.now.conn.now) tt _ (λ book keeps orders. tt);
}

pub loop-sender-preserved : goal.loop-sender-preserved
loop-sender-preserved g c =
    let o = c.args.office.now in
    let all = c.args.senders.now in
    let i = c.loop-sender.sender-index in
    let s = c.sender-item.result in
    let old = state g.S.Store c.args.tx.now.conn.now in
    let known : List (List ℕ) → Type 0 = λ senders. AllByRecursion (λ q. knows_sender (book_of old.now.trees) q ≡ true) senders in
    record {
      same_reference = c.in_ok-line_agrees.ensures.examined.same_reference ∙ c.loop-sender.invariant.same_reference;
      examined =
          examines_then {X = Unit {0}} {Y = Unit {0}} (DeniesLines o all) (DeniesLine o s) (DeniesLines o all) old (state g.S.Store c.loop-sender.tx.conn.now) (state g.S.Store c.line_agrees.new.tx.conn.now) tt (Ok tt) (λ db _. FindsLines o (take i all) db) (λ db _. FindsLine o s db) (λ db _. FindsLines o (take (i + 1) all) db)
          c.loop-sender.invariant.examined c.in_ok-line_agrees.ensures.examined.says
          (λ y before line book keeps orders.
          let P : List ℕ → Type 0 = λ q. HasLine o book q old.now.trees in
          subst (AllByRecursion P) (sym (take_more all i s c.loop-sender-test.true)) (all-append P _ _ (before book keeps orders) (subst P c.sender-item.is (line book keeps (orders s)), tt)))
          (λ before no are holds.
          let P : List ℕ → Type 0 = λ q. knows_sender (book_of old.now.trees) q ≡ true in
          no (subst P (sym c.sender-item.is) (all-get_or P all i s are.each c.loop-sender-test.true)) holds);
    }

pub returns-in_err-line_agrees : goal.returns-in_err-line_agrees
returns-in_err-line_agrees g c = record {
  examined = record {
    same_reference = search rules;
    says =
        let o = c.args.office.now in
        let all = c.args.senders.now in
        let i = c.loop-sender.sender-index in
        let s = c.sender-item.result in
        let old = state g.S.Store c.args.tx.now.conn.now in
        let new = state g.S.Store c.line_agrees.new.tx.conn.now in
        let fault = c.in_err-line_agrees.field-0.0 in
        examines_not {X = Unit {0}} {Y = Unit {0}} (DeniesLines o all) (DeniesLines o all) old new fault c.from_residual.result (λ db _. Unit {0}) (λ db _. FindsLines o all db)
        (examines_then {X = Unit {0}} {Y = Unit {0}} (DeniesLines o all) (DeniesLine o s) (DeniesLines o all) old (state g.S.Store c.loop-sender.tx.conn.now) new tt (Err fault) (λ db _. FindsLines o (take i all) db) (λ db _. FindsLine o s db) (λ db _. Unit {0})
        c.loop-sender.invariant.examined c.in_err-line_agrees.ensures.examined.says
        (λ y before line. tt)
        (λ before no are holds.
        let P : List ℕ → Type 0 = λ q. knows_sender (book_of old.now.trees) q ≡ true in
        no (subst P (sym c.sender-item.is) (all-get_or P all i s are.each c.loop-sender-test.true)) holds))
        c.from_residual.ensures.1 (λ no. no);
  };
}

pub returns : goal.returns
returns g c = record {
  examined = record {
    same_reference = search rules;
    says =
        let o = c.args.office.now in
        let all = c.args.senders.now in
        let i = c.loop-sender.sender-index in
        let old = state g.S.Store c.args.tx.now.conn.now in
        examines_also {X = Unit {0}} (DeniesLines o all) (DeniesLines o all) old (state g.S.Store c.loop-sender.tx.conn.now) (Ok tt) (λ db _. FindsLines o (take i all) db) (λ db _. FindsLines o all db) c.loop-sender.invariant.examined
        (λ x found. subst (λ (senders : List (List ℕ)). FindsLines o senders old.now.trees) (take_all i all c.loop-sender-test.false) found) (λ no. no);
  };
}
