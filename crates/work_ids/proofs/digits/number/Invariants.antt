use Rattle.std.proofs.Common.{◌≡◌, ◌^◌, ◌<◌, take, true}
use Rattle.std.specs.List.{list_all}
use Rattle.std.specs.Str.Parse.{digits_value}
use Rattle.work_ids.specs.Characters.{is_digit}
use Rattle.work_ids.proofs.digits.number.Given as goal

abbrev pub invariant-loop-digit : goal.invariant-loop-digit
invariant-loop-digit l = record {
  value : l.value ≡ digits_value 10 (take l.digit-index l.digits);
  digits : list_all is_digit l.digits ≡ true;
  room : l.value < 10 ^ l.digit-index;
}
