use Rattle.std.proofs.Common.{◌≡◌, ◌+◌, ◌-◌, ◌*◌, ◌∙◌, ap, sym, min, take, get_or, arith, true}
use Rattle.std.specs.Str.Parse.{digits_value}
use Rattle.std.proofs.lemmas.Int.Digits.{digits_value_more}
use Rattle.std.proofs.lemmas.List.Sums.{AllPass-from_list_all}
use Rattle.work_ids.specs.Characters.{is_digit}
use Rattle.work_ids.proofs.lemmas.Decimals.{digit_is, min_more}
use Rattle.work_ids.proofs.digits.number_up_to.Goals as goal

pub loop-digit-preserved : goal.loop-digit-preserved
loop-digit-preserved c =
    let ds = c.args.digits.now in
    let i = c.loop-digit.digit-index in
    let m = c.args.most in
    let passes : is_digit (get_or ds i 0) ≡ true = AllPass-from_list_all is_digit ds c.requires.digits i 0 c.loop-digit-test.true in
    let digit = digit_is (get_or ds i 0) passes in
    let more = digits_value_more 10 ds i c.loop-digit-test.true in
    c.min-number.ensures
    ∙ ap (λ n. min (c.loop-digit.number * 10 + n) (m + 1)) c.from.ensures
    ∙ min_more (digits_value 10 (take i ds)) c.loop-digit.number m (get_or ds i 0 - 48) c.loop-digit.invariant (omega (arith, digit.0, digit.1))
    ∙ ap (λ n. min (digits_value 10 (take i ds) * 10 + n) (m + 1)) (sym digit.2)
    ∙ ap (λ n. min n (m + 1)) (sym more)
