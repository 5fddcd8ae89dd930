use Rattle.cwr_records.specs.Lines.{lines}
use Rattle.std.proofs.Common.{◌∷◌, sym, ◌∙◌}
use Rattle.cwr_files.proofs.lemmas.Listing.{transactions-step, transactions-behind, transactions-pass, transaction-made, further_part}
use Rattle.cwr_files.proofs.builder.transactions.Goals as goal

pub openings-preserved-then-has_type-2 : goal.openings-preserved-then-has_type-2
openings-preserved-then-has_type-2 c =
    transactions-behind c.args.kind.now c.args.group c.args.after.now _ _ _ _ _
    (transactions-step c.args.kind.now c.args.group c.args.after.now _ _ _ _ _ _ c.openings.invariant c.split_line-line.ensures (sym c.has_type.ensures ∙ c.if-has_type.false) (sym c.has_type-in-openings.ensures ∙ c.if-has_type-2.true)
    (transaction-made c.kind_of.result _ c.args.group c.len-sequence.result _ (c.split_line-line.result.0 ∷ further_part c.args.kind.now (lines c.split_line-line.result.1.now)) _ c.kind_of.ensures (c.len-sequence.ensures ∙ c.openings.list.ok.0) c.in_ok-records.ensures.listed)
    c.in_ok-push.ensures.items)
    c.in_ok-records.ensures

pub openings-preserved : goal.openings-preserved
openings-preserved c =
    transactions-pass c.args.kind.now c.args.group c.args.after.now _ _ _ _ c.openings.invariant c.split_line-line.ensures (sym c.has_type.ensures ∙ c.if-has_type.false) (sym c.has_type-in-openings.ensures ∙ c.if-has_type-2.false)
