use Rattle.std.proofs.Common.{◌∷◌, ◌++◌, [], sym, ap, ◌∙◌}
use Rattle.cwr_files.proofs.lemmas.Listing.{records-next, records-step}
use Rattle.cwr_files.proofs.builder.records.Goals as goal

pub returns-then-has_type-2 : goal.returns-then-has_type-2
returns-then-has_type-2 c =
    records-next c.args.kind.now c.args.first c.args.after.now _ _ _ _ _ c.from_vec-then-has_type-2.ensures c.further.invariant c.split_line-line.ensures (sym c.has_type.ensures ∙ c.if-has_type.false) (sym c.has_type-in-further.ensures ∙ c.if-has_type-2.true)

pub further-preserved : goal.further-preserved
further-preserved c =
    records-step c.args.kind.now c.args.first c.args.after.now _ _ _ _ _ c.further.invariant c.split_line-line.ensures (sym c.has_type.ensures ∙ c.if-has_type.false) (sym c.has_type-in-further.ensures ∙ c.if-has_type-2.false)
    (c.in_ok-push-2.ensures.items ∙ ap (λ x. c.further.list.items ++ x ∷ []) c.read_record-in-further.ensures)
