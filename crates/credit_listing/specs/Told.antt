-- What is said where an order is not answered.
use Rattle.std.specs.Prelude.{ℕ, List, [], ◌++◌, ◌-◌, ◌/◌, ◌%◌, codes, decimal, if◌then◌else◌, nat_lt}
use Rattle.society_core.specs.Orders.{order_fault_number}
use Rattle.society_core.specs.declared.refusal.Refusal.{Refusal}
use Rattle.society_core.specs.declared.refusal.Refusal.TheVariants as refusals
use Rattle.work_ids.specs.Blanks.{without_trailing_blanks}
use Rattle.work_ids.specs.SpelledNumber.{dated_text}

-- a front, given by its rank: a plain number, or one of a year as in 26-0001 (profile)
abbrev pub front_text : ℕ → List ℕ
front_text rank = if nat_lt rank 1000000 then decimal rank else dated_text ((rank - 1000000) / 10000) ((rank - 1000000) % 10000)

-- why an order is not answered (profile)
abbrev pub refusal_words : Refusal → List ℕ
refusal_words (refusals.Order fault) = codes "fault " ++ decimal (order_fault_number fault)
refusal_words (refusals.Cut sender front) = codes "cut " ++ sender ++ codes " front " ++ front_text front
refusal_words (refusals.ReturnUnknown key) = codes "no return " ++ without_trailing_blanks key.reporter ++ codes " " ++ decimal key.number
refusal_words _ = []

-- the line that says so of the order of this number (profile)
abbrev pub refusal_line : ℕ → Refusal → List ℕ
refusal_line number refusal = codes "society: order " ++ decimal number ++ codes ": " ++ refusal_words refusal ++ codes "\n"
