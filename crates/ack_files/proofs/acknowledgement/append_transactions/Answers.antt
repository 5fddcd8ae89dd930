use Rattle.std.proofs.Common.{◌≡◌, ◌+◌, ◌<◌, ◌++◌, ◌∷◌, List, length, drop, sym, ap, ◌∙◌, arith}
use Rattle.std.proofs.lemmas.List.{drop_more, get_or_default}
use Rattle.std.specs.List.{zip}
use Rattle.cwr_files.specs.declared.transmission.Transaction.{Transaction}
use Rattle.works_core.specs.declared.verdict.Verdict.TheVariants.{Rejected}
use Rattle.ack_files.specs.Acknowledgement.{ack_lines}
use Rattle.ack_files.proofs.lemmas.AckLemmas.{line_written, one_counted}
use Rattle.ack_files.proofs.acknowledgement.append_transactions.Goals as goal

pub loop-transaction-preserved : goal.loop-transaction-preserved
loop-transaction-preserved c =
    let at = c.loop-transaction.at in
    let index = c.loop-transaction.transaction-index in
    let transactions = c.args.transactions.now in
    let verdicts = c.args.verdicts.now in
    let item = c.transaction-item.result in
    let more = drop (index + 1) transactions in
    let room : at < length verdicts = omega (arith, c.if-at-verdicts.false, c.loop-transaction.invariant.within) in
    let front : drop index transactions ≡ item ∷ more = drop_more transactions index item c.loop-transaction-test.true ∙ ap (λ (x : Transaction). x ∷ more) (sym c.transaction-item.is) in
    record {
      within = omega arith;
      counted =
          one_counted at item more verdicts (Rejected 0) room
          ∙ ap (λ (xs : List Transaction). at + length (zip xs (drop at verdicts))) (sym front) ∙ c.loop-transaction.invariant.counted;
      written =
          line_written c.args.sender.now c.args.original.now at item more verdicts c.loop-transaction.out.items c.append_ack.new.out.items room c.in_ok-append_ack.ensures (get_or_default verdicts at _ _ room)
          ∙ ap (λ (xs : List Transaction). c.loop-transaction.out.items ++ ack_lines c.args.sender.now c.args.original.now at xs (drop at verdicts)) (sym front)
          ∙ c.loop-transaction.invariant.written;
    }
