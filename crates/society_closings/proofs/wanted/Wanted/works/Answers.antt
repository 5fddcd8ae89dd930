use Rattle.std.proofs.Common.{◌≡◌, ◌∙◌, ◌||◌, ◌+◌, List, ℕ, Ok, ap, arith, bytes_eq, refl, subst, sym, take, rules}
use Rattle.std.proofs.lemmas.List.Folds.{list_any_more}
use Rattle.std.proofs.lemmas.List.{take_all}
use Rattle.std.specs.List.{list_any}
use Rattle.society_book.proofs.lemmas.together.StepLemmas.{looks_as, looks_then, nothing}
use Rattle.society_closings.proofs.lemmas.cuts.CutLists.{all_senders_listed, among_turned, no_senders, one_sender_more}
use Rattle.society_closings.proofs.lemmas.cuts.CutNotes.{any_bytes}
use Rattle.society_closings.proofs.lemmas.cuts.FaultLemmas.{errs_memory, errs_passed}
use Rattle.society_closings.specs.Blamed.{HoldNoWorks}
use Rattle.society_closings.specs.CutWorks.{ListsSender}
use Rattle.sqlite.specs.Held.{state}
use Rattle.society_closings.proofs.wanted.Wanted.works.Goals as goal

pub loop-sender-init : goal.loop-sender-init
loop-sender-init g c = record {
  same_reference = refl;
  looks = nothing (state g.S.Store c.args.tx.now.conn.now) (Ok tt) _ (no_senders c.args.self.now.recordings c.new-works.result (state g.S.Store c.args.tx.now.conn.now).now.trees);
}

pub loop-sender-preserved : goal.loop-sender-preserved
loop-sender-preserved g c =
    let senders = c.as_slice-sender-items.result.now in
    let i = c.loop-sender.sender-index in
    let sender = c.sender-item.result in
    let wanted = c.args.self.now.recordings in
    let old = state g.S.Store c.args.tx.now.conn.now in
    let mid = state g.S.Store c.loop-sender.tx.conn.now in
    let new = state g.S.Store c.list_sender.new.tx.conn.now in
    let next = λ (q : List ℕ). list_any_more (λ (one : List ℕ). bytes_eq one q) senders i sender (omega (arith, c.loop-sender-test.true)) ∙ ap (λ (one : List ℕ). list_any (λ (one : List ℕ). bytes_eq one q) (take i senders) || bytes_eq one q) (sym c.sender-item.is) in
    record {
      same_reference = c.list_sender.ensures.looks.same_reference ∙ c.loop-sender.invariant.same_reference;
      looks = looks_then old mid new tt (Ok tt) _ _ _ c.loop-sender.invariant.looks c.in_ok-list_sender.ensures.looks.says
          (λ y first second. one_sender_more wanted c.loop-sender.works c.list_sender.new.self sender (λ q. list_any (λ (one : List ℕ). bytes_eq one q) (take i senders)) (λ q. list_any (λ (one : List ℕ). bytes_eq one q) (take (i + 1) senders)) old.now.trees next c.in_ok-list_sender.ensures.more first second);
    }

pub returns-clause-looks : goal.returns-clause-looks
returns-clause-looks g c = record {
  same_reference = search rules;
  says =
      let senders = c.as_slice-sender-items.result.now in
      let works = c.loop-sender.works in
      let wanted = c.args.self.now in
      let old = state g.S.Store c.args.tx.now.conn.now in
      let db = old.now.trees in
      let keys : senders ≡ wanted.senders.keys = c.as_slice-sender-items.ensures.value ∙ c.in_ok-senders.ensures in
      looks_as old (state g.S.Store c.loop-sender.tx.conn.now) tt (Ok works) _ _ c.loop-sender.invariant.looks
      (λ lists. all_senders_listed wanted works (λ q. list_any (λ (one : List ℕ). bytes_eq one q) senders) db (λ s is. among_turned s senders ∙ ap (list_any (bytes_eq s)) keys ∙ any_bytes s wanted.senders.keys ∙ is)
      (subst (λ (l : List (List ℕ)). ListsSender (λ q. list_any (λ (one : List ℕ). bytes_eq one q) l) wanted.recordings works db) (take_all c.loop-sender.sender-index senders c.loop-sender-test.false) lists));
}

pub returns-in_err-senders-clause-err : goal.returns-in_err-senders-clause-err
returns-in_err-senders-clause-err g c =
    errs_memory HoldNoWorks (state g.S.Store c.args.tx.now.conn.now) (state g.S.Store c.args.tx.now.conn.now) c.from_residual.result c.from_residual.ensures.1

pub returns-in_err-list_sender-clause-err : goal.returns-in_err-list_sender-clause-err
returns-in_err-list_sender-clause-err g c =
    errs_passed (Unit {0}) HoldNoWorks HoldNoWorks (state g.S.Store c.args.tx.now.conn.now) (state g.S.Store c.loop-sender.tx.conn.now) (state g.S.Store c.list_sender.new.tx.conn.now) tt _ c.from_residual-in_err-list_sender.result _ _
    c.loop-sender.invariant.looks c.in_err-list_sender.ensures.looks.says c.in_err-list_sender.ensures.err c.from_residual-in_err-list_sender.ensures.1 (λ first no. no)
