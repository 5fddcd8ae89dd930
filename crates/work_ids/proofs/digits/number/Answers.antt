use Rattle.std.proofs.Common.{◌≡◌, ◌<◌, get_or, length, take, true, arith, rules}
use Rattle.std.proofs.lemmas.Int.Digits.{digits_value_more}
use Rattle.std.proofs.lemmas.List.{take_all}
use Rattle.std.proofs.lemmas.List.Sums.{AllPass-from_list_all}
use Rattle.work_ids.specs.Characters.{is_digit}
use Rattle.work_ids.proofs.lemmas.Decimals.{digit_fits, digit_is, no_number, room_more, the_number}
use Rattle.work_ids.proofs.digits.number.Goals as goal

pub returns-then-not-is_number-clause-value : goal.returns-then-not-is_number-clause-value
returns-then-not-is_number-clause-value c = no_number c.args.digits.now (search rules)

pub overflow_mul-value : goal.overflow_mul-value
overflow_mul-value c =
    let l = c.loop-digit in
    omega (arith, digit_fits l.value 0 l.digit-index (length c.args.digits.now) l.invariant.room (omega arith) c.requires (omega arith))

pub overflow_add-value : goal.overflow_add-value
overflow_add-value c =
    let l = c.loop-digit in
    let passes : is_digit (get_or c.args.digits.now l.digit-index 0) ≡ true = AllPass-from_list_all is_digit c.args.digits.now l.invariant.digits l.digit-index 0 c.loop-digit-test.true in
    let digit = digit_is (get_or c.args.digits.now l.digit-index 0) passes in
    let small : c.from.result < 10 = omega (arith, c.from.ensures, digit.1) in
    omega (arith, digit_fits l.value c.from.result l.digit-index (length c.args.digits.now) l.invariant.room (omega arith) c.requires small)

pub loop-digit-preserved : goal.loop-digit-preserved
loop-digit-preserved c =
    let l = c.loop-digit in
    let passes : is_digit (get_or c.args.digits.now l.digit-index 0) ≡ true = AllPass-from_list_all is_digit c.args.digits.now l.invariant.digits l.digit-index 0 c.loop-digit-test.true in
    let digit = digit_is (get_or c.args.digits.now l.digit-index 0) passes in
    let more = digits_value_more 10 c.args.digits.now l.digit-index c.loop-digit-test.true in
    record {
      value = omega (arith, more, digit.2, c.from.ensures, l.invariant.value);
      digits = l.invariant.digits;
      room = room_more l.value c.from.result l.digit-index l.invariant.room (omega (arith, c.from.ensures, digit.1));
    }

pub returns-clause-value : goal.returns-clause-value
returns-clause-value c =
    let l = c.loop-digit in
    let some = the_number c.args.digits.now (search rules) in
    let all : take l.digit-index c.args.digits.now ≡ c.args.digits.now = take_all l.digit-index c.args.digits.now (omega arith) in
    rw (l.invariant.value, all) some
