use Rattle.std.proofs.Common.{arith, rules}
use Rattle.work_ids.proofs.lemmas.FileNames.{name_form, at_least}
use Rattle.work_ids.proofs.file_name.number_in_capitals.Goals as goal

pub slice_bounds-short_number-end : goal.slice_bounds-short_number-end
slice_bounds-short_number-end c = omega (arith, at_least c.args.society c.args.name.now (name_form c.args.society c.args.name.now (search rules)))

pub short_number-year-requires-clause-digits : goal.short_number-year-requires-clause-digits
short_number-year-requires-clause-digits c = (name_form c.args.society c.args.name.now (search rules)).year

pub slice_bounds-short_number-end-2 : goal.slice_bounds-short_number-end-2
slice_bounds-short_number-end-2 c = omega (arith, at_least c.args.society c.args.name.now (name_form c.args.society c.args.name.now (search rules)))

pub short_number-sequence-requires-clause-digits : goal.short_number-sequence-requires-clause-digits
short_number-sequence-requires-clause-digits c = (name_form c.args.society c.args.name.now (search rules)).sequence
