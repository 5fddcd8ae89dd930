use Rattle.std.proofs.Common.{Err, List, Ok, subst, sym, rules}
use Rattle.sqlite.specs.Held.{state}
use Rattle.sqlite_trees.specs.Tree.{Trees}
use Rattle.society_core.specs.declared.transmission_key.TransmissionKey.{TransmissionKey}
use Rattle.society_book.proofs.lemmas.together.JudgedLemmas.{examines_as, examines_not, examines_then}
use Rattle.society_book.specs.Steps.{Examines}
use Rattle.book_audit.specs.OwnRows.{LacksOwn}
use Rattle.book_audit.specs.Judging.{AreReported, AreRightLasts, AreSent, AreSentKeys, AreStated}
use Rattle.book_audit.proofs.lemmas.entries.EntriesFound.{AreAllRight, all_found, all_wrong, none_reported, none_sent, none_stated}
use Rattle.book_audit.proofs.lemmas.entries.StatedRows.{Last}
use Rattle.book_audit.proofs.entries.entries_in.Goals as goal

-- what is found of the transmissions
abbrev FindsSent : List TransmissionKey → Trees → Type 0
FindsSent keys db = AreSent db × AreSentKeys db keys

-- and of the ends
abbrev FindsLines : List TransmissionKey → List Last → Trees → Type 0
FindsLines keys lasts db = FindsSent keys db × AreRightLasts db lasts

pub returns-in_err-keys : goal.returns-in_err-keys
returns-in_err-keys g c = record {
  examined = record {
    same_reference = search rules;
    says =
        let old = state g.S.Store c.args.tx.now.conn.now in
        examines_not (λ db. AreSent db → ⊥) LacksOwn old (state g.S.Store c.sent_in.new.tx.conn.now) c.in_err-keys.field-0.0 c.from_residual.result _ _ c.in_err-keys.ensures.examined.says c.from_residual.ensures.1 (none_sent old.now.trees);
  };
}

pub returns-in_err-lasts : goal.returns-in_err-lasts
returns-in_err-lasts g c = record {
  examined = record {
    same_reference = search rules;
    says =
        let old = state g.S.Store c.args.tx.now.conn.now in
        let mid = state g.S.Store c.sent_in.new.tx.conn.now in
        let new = state g.S.Store c.stated_in.new.tx.conn.now in
        let db = old.now.trees in
        examines_not LacksOwn LacksOwn old new c.in_err-lasts.field-0.0 c.from_residual-in_err-lasts.result _ _
        (examines_then (λ db. AreSent db → ⊥) (λ db. AreStated db → ⊥) LacksOwn old mid new c.in_ok-keys.keys (Err c.in_err-lasts.field-0.0) _ _ (λ db y. Unit {0}) c.in_ok-keys.ensures.examined.says c.in_err-lasts.ensures.examined.says (λ y found here. tt) (λ found wrong. none_stated db wrong))
        c.from_residual-in_err-lasts.ensures.1 (λ none. none);
  };
}

pub returns-in_err-check_returns : goal.returns-in_err-check_returns
returns-in_err-check_returns g c = record {
  examined = record {
    same_reference = search rules;
    says =
        let old = state g.S.Store c.args.tx.now.conn.now in
        let mid = state g.S.Store c.sent_in.new.tx.conn.now in
        let next = state g.S.Store c.stated_in.new.tx.conn.now in
        let new = state g.S.Store c.check_returns.new.tx.conn.now in
        let db = old.now.trees in
        examines_not LacksOwn LacksOwn old new c.in_err-check_returns.field-0.0 c.from_residual-in_err-check_returns.result _ _
        (examines_then LacksOwn (λ db. AreReported db → ⊥) LacksOwn old next new c.in_ok-lasts.lasts (Err c.in_err-check_returns.field-0.0) (λ db y. Unit {0}) _ (λ db y. Unit {0})
        (examines_then (λ db. AreSent db → ⊥) (λ db. AreStated db → ⊥) LacksOwn old mid next c.in_ok-keys.keys (Ok c.in_ok-lasts.lasts) _ _ (λ db y. Unit {0}) c.in_ok-keys.ensures.examined.says c.in_ok-lasts.ensures.examined.says (λ y found here. tt) (λ found wrong. none_stated db wrong))
        c.in_err-check_returns.ensures.examined.says (λ y found here. tt) (λ found wrong. none_reported db wrong))
        c.from_residual-in_err-check_returns.ensures.1 (λ none. none);
  };
}

pub returns : goal.returns
returns g c = record {
  examined = record {
    same_reference = search rules;
    says =
        let old = state g.S.Store c.args.tx.now.conn.now in
        let mid = state g.S.Store c.sent_in.new.tx.conn.now in
        let next = state g.S.Store c.stated_in.new.tx.conn.now in
        let new = state g.S.Store c.check_returns.new.tx.conn.now in
        let db = old.now.trees in
        let keys = c.as_slice.result.now in
        let lasts = c.as_slice-2.result.now in
        let lines : Examines LacksOwn old next (Ok c.in_ok-lasts.lasts) (λ db stated. FindsLines keys stated.items db) =
        examines_then (λ db. AreSent db → ⊥) (λ db. AreStated db → ⊥) LacksOwn old mid next c.in_ok-keys.keys (Ok c.in_ok-lasts.lasts) _ _ (λ db stated. FindsLines keys stated.items db) c.in_ok-keys.ensures.examined.says c.in_ok-lasts.ensures.examined.says
        (λ y found here. ((found.0, subst (AreSentKeys db) (sym c.as_slice.ensures.value) found.1), here))
        (λ found wrong. none_stated db wrong) in
        let all : Examines LacksOwn old new (Ok tt) (λ db _. AreAllRight db keys lasts) =
        examines_then LacksOwn (λ db. AreReported db → ⊥) LacksOwn old next new c.in_ok-lasts.lasts (Ok tt) (λ db stated. FindsLines keys stated.items db) _ (λ db _. AreAllRight db keys lasts) lines c.in_ok-check_returns.ensures.examined.says
        (λ y found here. record { sent = found.0.0; keys_are = found.0.1; stated = subst (AreRightLasts db) (sym c.as_slice-2.ensures.value) found.1; reported = here })
        (λ found wrong. none_reported db wrong) in
        examines_as LacksOwn LacksOwn old new tt c.senders_under.result _ _ all
        (λ right. all_found db keys lasts c.senders_under.result right c.senders_under.ensures.fits c.senders_under.ensures.senders)
        (λ right. all_wrong db keys lasts c.senders_under.result right c.senders_under.ensures.judged);
  };
}
