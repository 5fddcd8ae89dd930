use Rattle.std.proofs.Common.{sym, arith, rules}
use Rattle.work_ids.proofs.lemmas.DatedTexts.{dated_exact, dated_form, dated_is, no_dated}
use Rattle.work_ids.proofs.spelled_number.SpelledNumber.from_text.Goals as goal

pub returns-then-not-is_dated_text-clause-value : goal.returns-then-not-is_dated_text-clause-value
returns-then-not-is_dated_text-clause-value c = no_dated c.args.text.now (search rules)

pub returns-then-not-is_dated_text-clause-exact : goal.returns-then-not-is_dated_text-clause-exact
returns-then-not-is_dated_text-clause-exact c = dated_exact c.args.text.now _ (no_dated c.args.text.now (search rules))

pub slice_bounds-short_number-end : goal.slice_bounds-short_number-end
slice_bounds-short_number-end c = sym (dated_form c.args.text.now (search rules)).two_long

pub short_number-requires-clause-digits : goal.short_number-requires-clause-digits
short_number-requires-clause-digits c = (dated_form c.args.text.now (search rules)).year

pub slice_bounds-short_number-end-2 : goal.slice_bounds-short_number-end-2
slice_bounds-short_number-end-2 c = omega (arith, (dated_form c.args.text.now (search rules)).long)

pub short_number-requires-2-clause-digits : goal.short_number-requires-2-clause-digits
short_number-requires-2-clause-digits c = (dated_form c.args.text.now (search rules)).sequence

pub returns-clause-value : goal.returns-clause-value
returns-clause-value c =
    dated_is c.args.text.now (search rules) c.short_number.result c.short_number-2.result c.short_number.ensures.value c.short_number-2.ensures.value

pub returns-clause-exact : goal.returns-clause-exact
returns-clause-exact c =
    dated_exact c.args.text.now _ (dated_is c.args.text.now (search rules) c.short_number.result c.short_number-2.result c.short_number.ensures.value c.short_number-2.ensures.value)
