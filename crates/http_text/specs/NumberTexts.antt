-- Numbers of transmissions, fronts and segments as texts.
use Rattle.std.specs.Prelude.{ℕ, List, ◌++◌, ◌==◌, Option, Some, None, codes, decimal, length, if◌then◌else◌}
use Rattle.std.specs.Option.{option_map}
use Rattle.std.specs.Str.{bytes_eq}
use Rattle.work_ids.specs.Digits.{decimal_value}
use Rattle.work_ids.specs.Numbers.{is_plain_number, number_in_text}
use Rattle.work_ids.specs.Segments.{segment_at, segment_of, sequence_of}
use Rattle.work_ids.specs.SpelledNumber.{dated_in_text, dated_text, transmission_number_spelled}
use Rattle.work_ids.specs.declared.segment.Segment.{Segment}
use Rattle.work_ids.specs.declared.segment.Segment.TheVariants.{Plain, Year}
use Rattle.work_ids.specs.declared.spelled_number.SpelledNumber.{SpelledNumber}

-- the number that is spelled as one of a year, else a plain one in decimal digits without a leading zero (profile)
abbrev pub number_by : Option SpelledNumber → List ℕ → Option ℕ
number_by (Some spelled) text = transmission_number_spelled spelled
number_by None text = number_in_text is_plain_number text

-- the number of a transmission that a text spells: a plain one, or one of a year as in 26-0001 (profile)
abbrev pub rank_in_text : List ℕ → Option ℕ
rank_in_text text = number_by (dated_in_text text) text

-- the segment that a text names: plain, or the last two digits of a year (profile)
abbrev pub segment_named : List ℕ → Option Segment
segment_named text =
    if bytes_eq text (codes "plain") then Some Plain else (if length text == 2 then option_map Year (decimal_value text) else None)

-- the number of a segment in JSON: a plain one is a number, one of a year a string (profile)
abbrev pub number_text_in : Segment → ℕ → List ℕ
number_text_in Plain sequence = decimal sequence
number_text_in (Year year) sequence = codes "\"" ++ dated_text year sequence ++ codes "\""

-- the number with a rank in JSON; a front at a year of which nothing is there has number 0000 (profile)
unfoldable pub number_text : ℕ → List ℕ
number_text rank = number_text_in (segment_at (segment_of rank)) (sequence_of rank)
