use Rattle.std.proofs.Common.{◌≡◌, ◌∙◌, ◌+◌, ◌||◌, Err, List, Ok, [], ap, false, bytes_eq, refl, subst, sym, take, ℕ, rules}
use Rattle.std.proofs.lemmas.List.{take_all}
use Rattle.std.proofs.lemmas.List.Folds.{list_any_more}
use Rattle.sqlite.specs.Held.{state}
use Rattle.society_book.specs.RightRows.{KeepsUnsound}
use Rattle.society_arrivals.specs.Runs.{is_key_among}
use Rattle.book_derivation.proofs.lemmas.Apart.{not_before}
use Rattle.book_derivation.proofs.lemmas.Derivings.{derives_also, derives_not, derives_nothing, derives_then}
use Rattle.book_derivation.proofs.lemmas.SoFar.{WritesSome, unsound_kept, writes_all, writes_more, writes_none}
use Rattle.book_derivation.specs.Lines.{WritesLine, WritesLines}
use Rattle.book_derivation.proofs.lines.write_lines.Goals as goal

pub loop-sender-init : goal.loop-sender-init
loop-sender-init g c =
    let old = state g.S.Store c.args.tx.now.conn.now in
    record {
      same_reference = refl;
      derives = derives_nothing {X = Unit {0}} KeepsUnsound old tt (λ before after _. WritesSome c.args.office.now c.args.senders.now [] before after) (writes_none c.args.office.now c.args.senders.now old.now.trees);
    }

pub loop-sender-preserved : goal.loop-sender-preserved
loop-sender-preserved g c =
    let o = c.args.office.now in
    let all = c.args.senders.now in
    let i = c.loop-sender.sender-index in
    let s = c.sender-item.result in
    let old = state g.S.Store c.args.tx.now.conn.now in
    let mid = state g.S.Store c.loop-sender.tx.conn.now in
    let new = state g.S.Store c.write_line.new.tx.conn.now in
    record {
      same_reference = c.in_ok-write_line.ensures.derives.same_reference ∙ c.loop-sender.invariant.same_reference;
      derives =
          derives_then {X = Unit {0}} {Y = Unit {0}} KeepsUnsound KeepsUnsound KeepsUnsound old mid new tt (Ok tt) (λ before after _. WritesSome o all (take i all) before after) (λ before after _. WritesLine o s before after) (λ before after _. WritesSome o all (take (i + 1) all) before after)
          c.loop-sender.invariant.derives c.in_ok-write_line.ensures.derives.says
          (λ y own later some line. writes_more o all (take i all) (take (i + 1) all) s
          (λ t. list_any_more (λ (q : List ℕ). bytes_eq q t) all i s c.loop-sender-test.true ∙ ap (λ (q : List ℕ). is_key_among (take i all) t || bytes_eq q t) (sym c.sender-item.is))
          (λ b senders. subst (λ (q : List ℕ). is_key_among (take i all) q ≡ false) (sym c.sender-item.is) (not_before all i s c.loop-sender-test.true senders.once))
          old.now.trees mid.now.trees new.now.trees some line)
          (λ own some unsound. unsound_kept old.now.trees mid.now.trees some.others unsound);
    }

pub returns-in_err-write_line : goal.returns-in_err-write_line
returns-in_err-write_line g c = record {
  derives = record {
    same_reference = search rules;
    says =
        let o = c.args.office.now in
        let all = c.args.senders.now in
        let i = c.loop-sender.sender-index in
        let s = c.sender-item.result in
        let old = state g.S.Store c.args.tx.now.conn.now in
        let mid = state g.S.Store c.loop-sender.tx.conn.now in
        let new = state g.S.Store c.write_line.new.tx.conn.now in
        let fault = c.in_err-write_line.field-0.0 in
        derives_not {X = Unit {0}} {Y = Unit {0}} KeepsUnsound KeepsUnsound old new fault c.from_residual.result (λ before after _. Unit {0}) (λ before after _. WritesLines o all before after)
        (derives_then {X = Unit {0}} {Y = Unit {0}} KeepsUnsound KeepsUnsound KeepsUnsound old mid new tt (Err fault) (λ before after _. WritesSome o all (take i all) before after) (λ before after _. WritesLine o s before after) (λ before after _. Unit {0})
        c.loop-sender.invariant.derives c.in_err-write_line.ensures.derives.says
        (λ y own later some line. tt)
        (λ own some unsound. unsound_kept old.now.trees mid.now.trees some.others unsound))
        c.from_residual.ensures.1 (λ unsound. unsound);
  };
}

pub returns : goal.returns
returns g c = record {
  derives = record {
    same_reference = search rules;
    says =
        let o = c.args.office.now in
        let all = c.args.senders.now in
        let i = c.loop-sender.sender-index in
        let old = state g.S.Store c.args.tx.now.conn.now in
        let new = state g.S.Store c.loop-sender.tx.conn.now in
        derives_also {X = Unit {0}} KeepsUnsound KeepsUnsound old new (Ok tt) (λ before after _. WritesSome o all (take i all) before after) (λ before after _. WritesLines o all before after) c.loop-sender.invariant.derives
        (λ x own some. writes_all o all old.now.trees new.now.trees (subst (λ (done : List (List ℕ)). WritesSome o all done old.now.trees new.now.trees) (take_all i all c.loop-sender-test.false) some)) (λ unsound. unsound);
  };
}
