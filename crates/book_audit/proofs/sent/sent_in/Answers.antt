use Rattle.std.proofs.Common.{◌≡◌, ◌∙◌, ◌+◌, Err, Ok, ap, false, map, subst, sym, take, true, rules}
use Rattle.std.specs.List.{AllByRecursion}
use Rattle.std.proofs.lemmas.Bool.{false≢true}
use Rattle.std.proofs.lemmas.List.{take_all}
use Rattle.sqlite.specs.Held.{state}
use Rattle.sqlite_trees.specs.Tree.{Trees}
use Rattle.society_rows.specs.Layout as layout
use Rattle.society_rows.specs.Reads.{ListsKeys}
use Rattle.society_book.specs.BookRows.{transmission_key_of}
use Rattle.society_core.specs.declared.transmission_key.TransmissionKey.{TransmissionKey}
use Rattle.society_book.proofs.lemmas.together.JudgedLemmas.{examines_as, examines_not, examines_then}
use Rattle.society_book.proofs.lemmas.together.ErrLemmas.{blames_memory, no_answer}
use Rattle.society_book.specs.Steps.{Never}
use Rattle.book_audit.specs.Judging.{AreSent, AreSentKeys, is_sent_at}
use Rattle.book_audit.proofs.lemmas.entries.KeyedRows.{here_of, more_of, more_told}
use Rattle.book_audit.proofs.lemmas.entries.SentRows.{keys_of_sent, sent_by_keys, sent_listed}
use Rattle.book_audit.proofs.sent.sent_in.Goals as goal

-- transmissions do not all stand in a book
abbrev NotSent : Trees → Type 0
NotSent db = AreSent db → ⊥

pub returns-in_err-key : goal.returns-in_err-key
returns-in_err-key g c = record {
  examined = record {
    same_reference = search rules;
    says =
        let old = state g.S.Store c.args.tx.now.conn.now in
        let mid = state g.S.Store c.loop-row.tx.conn.now in
        let new = state g.S.Store c.sent_at.new.tx.conn.now in
        let keys = c.as_slice-row-items.result.now in
        let row = c.row-item.result in
        examines_not NotSent NotSent old new c.in_err-key.field-0.0 c.from_residual-in_err-key.result _ _
        (examines_then Never (λ db. is_sent_at db row ≡ false) NotSent old mid new tt (Err c.in_err-key.field-0.0) _ _ (λ db (key : TransmissionKey). Unit {0}) c.loop-row.invariant.examined c.in_err-key.ensures.examined.says (λ y found here. tt)
        (λ found wrong sent. false≢true (sym wrong ∙ here_of (λ k. is_sent_at old.now.trees k ≡ true) keys c.loop-row.row-index row c.loop-row-test.true c.row-item.is (keys_of_sent old.now.trees keys found.0 sent))))
        c.from_residual-in_err-key.ensures.1 (λ h. h);
  };
}

pub returns-in_err-push : goal.returns-in_err-push
returns-in_err-push g c = record {
  examined = record {
    same_reference = search rules;
    says =
        let old = state g.S.Store c.args.tx.now.conn.now in
        let mid = state g.S.Store c.loop-row.tx.conn.now in
        let new = state g.S.Store c.sent_at.new.tx.conn.now in
        let row = c.row-item.result in
        let told = c.from_residual-in_err-push.ensures.1 in
        examines_as {X = Unit {0}} Never NotSent old new tt c.from_residual-in_err-push.result (λ db (u : Unit {0}). Unit {0}) _
        (examines_then {X = Unit {0}} {Y = Unit {0}} Never Never Never old mid new tt (Ok tt) _ (λ db u. Unit {0}) (λ db u. Unit {0}) c.loop-row.invariant.examined
        (examines_as {Y = Unit {0}} (λ db. is_sent_at db row ≡ false) Never mid new c.in_ok-key.key (Ok tt) _ (λ db u. Unit {0}) c.in_ok-key.ensures.examined.says (λ found. tt) (λ found. tt)) (λ y found here. tt) (λ found never. never))
        (λ found. no_answer c.from_residual-in_err-push.result _ _ told) (λ found. blames_memory _ c.from_residual-in_err-push.result told);
  };
}

pub loop-row-preserved : goal.loop-row-preserved
loop-row-preserved g c =
    let old = state g.S.Store c.args.tx.now.conn.now in
    let mid = state g.S.Store c.loop-row.tx.conn.now in
    let new = state g.S.Store c.sent_at.new.tx.conn.now in
    let keys = c.as_slice-row-items.result.now in
    let i = c.loop-row.row-index in
    let row = c.row-item.result in
    let key = c.in_ok-key.key in
    record {
      same_reference = c.sent_at.ensures.examined.same_reference ∙ c.loop-row.invariant.same_reference;
      examined = examines_then Never Never Never old mid new tt (Ok tt) _ (λ db _. (key ≡ transmission_key_of row) × (is_sent_at db row ≡ true))
          (λ db _. ListsKeys layout.transmissions (λ _. true) 2 db keys × AllByRecursion (λ k. is_sent_at db k ≡ true) (take (i + 1) keys) × (c.push.new.self.items ≡ map transmission_key_of (take (i + 1) keys))) c.loop-row.invariant.examined
          (examines_as (λ db. is_sent_at db row ≡ false) Never mid new key (Ok tt) _ _ c.in_ok-key.ensures.examined.says (λ found. found) (λ found. tt))
          (λ y found here. (
            found.0,
            more_of (λ k. is_sent_at old.now.trees k ≡ true) keys i row c.loop-row-test.true c.row-item.is found.1 here.1,
            more_told transmission_key_of keys i row key c.loop-row.keys.items c.push.new.self.items c.loop-row-test.true c.row-item.is found.2 c.in_ok-push.ensures.items here.0,
          ))
          (λ found never. never);
    }

pub returns : goal.returns
returns g c = record {
  examined = record {
    same_reference = search rules;
    says =
        let old = state g.S.Store c.args.tx.now.conn.now in
        let db = old.now.trees in
        let keys = c.as_slice-row-items.result.now in
        let all : take c.loop-row.row-index keys ≡ keys = take_all c.loop-row.row-index keys c.loop-row-test.false in
        examines_as Never NotSent old (state g.S.Store c.loop-row.tx.conn.now) tt (Ok c.loop-row.keys) _ _ c.loop-row.invariant.examined
        (λ found. (
          sent_by_keys db keys found.0 (subst (AllByRecursion (λ k. is_sent_at db k ≡ true)) all found.1),
          subst (AreSentKeys db) (sym (found.2 ∙ ap (map transmission_key_of) all)) (sent_listed db keys found.0),
        ))
        (λ found. tt);
  };
}
