use Rattle.std.proofs.Common.{◌≡◌, ◌+◌, ◌++◌, ◌∷◌, List, length, drop, flat_map, sym, ap, ◌∙◌}
use Rattle.std.proofs.lemmas.List.{drop_more}
use Rattle.std.specs.List.{zip}
use Rattle.cwr_files.specs.declared.transmission.Group.{Group}
use Rattle.cwr_files.specs.declared.transmission.Transaction.{Transaction}
use Rattle.ack_files.specs.Acknowledgement.{ack_lines}
use Rattle.ack_files.proofs.lemmas.AckLemmas.{lines_appended, counted_appended}
use Rattle.ack_files.proofs.acknowledgement.append_groups.Goals as goal

pub loop-group-preserved : goal.loop-group-preserved
loop-group-preserved c =
    let at = c.loop-group.at in
    let index = c.loop-group.group-index in
    let groups = c.args.groups.now in
    let verdicts = c.args.verdicts.now in
    let item = c.group-item.result in
    let of = λ (gs : List Group). flat_map (λ g. g.transactions) gs in
    let more = of (drop (index + 1) groups) in
    let front : of (drop index groups) ≡ item.transactions ++ more = ap of (drop_more groups index item c.loop-group-test.true ∙ ap (λ (x : Group). x ∷ drop (index + 1) groups) (sym c.group-item.is)) in
    record {
      within = c.in_ok-at.ensures.within;
      counted =
          counted_appended at c.in_ok-at.at c.as_slice.result.now more verdicts c.in_ok-at.ensures.after
          ∙ ap (λ (xs : List Transaction). at + length (zip xs (drop at verdicts))) (ap (λ (xs : List Transaction). xs ++ more) c.as_slice.ensures ∙ sym front) ∙ c.loop-group.invariant.counted;
      written =
          lines_appended c.args.sender.now c.args.original.now at c.in_ok-at.at c.as_slice.result.now more verdicts c.loop-group.out.items c.append_transactions.new.out.items c.in_ok-at.ensures.after c.in_ok-at.ensures.lines
          ∙ ap (λ (xs : List Transaction). c.loop-group.out.items ++ ack_lines c.args.sender.now c.args.original.now at xs (drop at verdicts)) (ap (λ (xs : List Transaction). xs ++ more) c.as_slice.ensures ∙ sym front)
          ∙ c.loop-group.invariant.written;
    }
