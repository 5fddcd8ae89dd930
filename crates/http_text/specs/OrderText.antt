-- The shape of an order that is spelled in JSON, and what a close by it asks (profile).
use Rattle.std.specs.Prelude.{ℕ, Bool, false, List, [], ◌∷◌, ◌+◌, ◌==◌, Result, Ok, Err, bytes_eq, codes, if◌then◌else◌, Option, Some, None, is_some, option_and_then, unwrap_or}
use Rattle.std.specs.Option.{option_map, option_zip}
use Rattle.std.specs.Result.{result_ok}
use Rattle.serde_json.specs.Data.{Data, Items, no_items, item}
use Rattle.serde_json.specs.Events.{items_len}
use Rattle.serde_json.specs.Find.{at, get, as_array, as_object, as_str}
use Rattle.share_rules.specs.declared.kind.Kind.{Kind}
use Rattle.share_rules.specs.declared.kind.Kind.TheVariants.{Performing, Mechanical}
use Rattle.work_ids.specs.Reporter.{reporter_of}
use Rattle.work_ids.specs.SenderKey.{sender_key_of}
use Rattle.work_ids.specs.SpelledNumber.{dated_in_text, transmission_number_spelled}
use Rattle.work_ids.specs.declared.spelled_number.SpelledNumber.{SpelledNumber}
use Rattle.work_ids.specs.declared.spelled_number.SpelledNumber.TheVariants.{Plain}
use Rattle.society_core.specs.Orders.{Order, order_fault, order_of}
use Rattle.society_core.specs.Requests.{Query, Closes, ClosesFaulty}
use Rattle.society_core.specs.declared.order_fault.OrderFault.{OrderFault}
use Rattle.society_core.specs.declared.order_fault.OrderFault.TheVariants.{Shape}
use Rattle.http_text.specs.JsonBodies.{has_members, json_of, whole_in, whole_member}

-- what an order's JSON spells, whatever its limits: the right that its pool pays, an amount, of each sender of the cut the rank of a number, and the returns
pub record OrderNumbers : Type 0 where
  pub kind : Kind
  pub amount : ℕ
  pub cut : List (List ℕ × ℕ)
  pub returns : List (List ℕ × ℕ)

-- the number that a whole number or a text spells: a text is one of a year, as in 26-0001 (profile)
abbrev pub spelled_by : Option ℕ → Option (List ℕ) → Option SpelledNumber
spelled_by (Some number) text = Some (Plain number)
spelled_by None (Some text) = dated_in_text text
spelled_by None None = None

-- the number that a value spells
abbrev pub spelled_in : Data → Option SpelledNumber
spelled_in value = spelled_by (whole_in value) (as_str value)

-- the rank of what is spelled; 0, which is out of range, where it is no number of a transmission (profile)
abbrev pub rank_spelled : SpelledNumber → ℕ
rank_spelled spelled = unwrap_or (transmission_number_spelled spelled) 0

-- the rank of the number that a value spells
abbrev pub rank_in_value : Data → Option ℕ
rank_in_value value = option_map rank_spelled (spelled_in value)

-- there are two elements
abbrev pub are_two : Option Items → Bool
are_two (Some items) = items_len items == 2
are_two None = false

-- a text and a number, which is read so, as an array of the two
abbrev pub pair_in : (Data → Option ℕ) → Data → Option (List ℕ × ℕ)
pair_in number value =
    if are_two (as_array value)
    then option_zip (option_and_then as_str (at 0 value)) (option_and_then number (at 1 value))
    else None

-- the text names something, which is known as other bytes
abbrev pub named_pair : (List ℕ → Option (List ℕ)) → List ℕ × ℕ → Option (List ℕ × ℕ)
named_pair name pair = option_map (λ known. (known, pair.1)) (name pair.0)

-- a name that reads well and a number
abbrev pub named_number : (List ℕ → Option (List ℕ)) → (Data → Option ℕ) → Data → Option (List ℕ × ℕ)
named_number name number value = option_and_then (named_pair name) (pair_in number value)

-- the first and all others, where they are there
abbrev pub before : Option (List ℕ × ℕ) → Option (List (List ℕ × ℕ)) → Option (List (List ℕ × ℕ))
before (Some first) (Some others) = Some (first ∷ others)
before (Some first) None = None
before None others = None

-- names with numbers, where all elements are such
abbrev pub named_numbers : (Data → Option (List ℕ × ℕ)) → Items → Option (List (List ℕ × ℕ))
named_numbers entry no_items = Some []
named_numbers entry (item value items) = before (entry value) (named_numbers entry items)

-- an array of them
abbrev pub named_numbers_in : (Data → Option (List ℕ × ℕ)) → Data → Option (List (List ℕ × ℕ))
named_numbers_in entry value = option_and_then (named_numbers entry) (as_array value)

-- the sender key that the bytes spell
abbrev pub sender_of : List ℕ → Option (List ℕ)
sender_of bytes = result_ok (sender_key_of bytes)

-- the reporter that the bytes spell
abbrev pub reporter_named : List ℕ → Option (List ℕ)
reporter_named bytes = result_ok (reporter_of bytes)

-- a sender and the rank of the number of one of its transmissions
abbrev pub sender_named : Data → Option (List ℕ × ℕ)
sender_named value = named_number sender_of rank_in_value value

-- a reporter and the number of one of its returns, a whole number from 0
abbrev pub return_named : Data → Option (List ℕ × ℕ)
return_named value = named_number reporter_named whole_in value

-- the right that a text names: PR or MR (CISAC CWR 2.2)
abbrev pub kind_named : List ℕ → Option Kind
kind_named text =
    if bytes_eq text (codes "PR") then Some Performing
    else (if bytes_eq text (codes "MR") then Some Mechanical else None)

-- the right by an order's member, PR where it has none (profile)
abbrev pub kind_by : Option Data → Option Kind
kind_by None = Some Performing
kind_by (Some value) = option_and_then kind_named (as_str value)

-- the right that an object names
abbrev pub kind_in : Data → Option Kind
kind_in value = kind_by (get (codes "kind") value)

-- how many members an order has: three, and one more where it names its kind (profile)
abbrev pub members_of_order : Data → ℕ
members_of_order value = if is_some (get (codes "kind") value) then 4 else 3

-- the kind and the numbers, where all of them are there
abbrev pub numbers_by : Option Kind → Option ℕ → Option (List (List ℕ × ℕ)) → Option (List (List ℕ × ℕ)) → Option OrderNumbers
numbers_by (Some kind) (Some amount) (Some cut) (Some returns) = Some (record { kind = kind; amount = amount; cut = cut; returns = returns })
numbers_by (Some kind) (Some amount) (Some cut) None = None
numbers_by (Some kind) (Some amount) None returns = None
numbers_by (Some kind) None cut returns = None
numbers_by None amount cut returns = None

-- the cut that an object spells
abbrev pub cut_in : Data → Option (List (List ℕ × ℕ))
cut_in value = option_and_then (named_numbers_in sender_named) (get (codes "cut") value)

-- the returns that it spells
abbrev pub returns_in : Data → Option (List (List ℕ × ℕ))
returns_in value = option_and_then (named_numbers_in return_named) (get (codes "returns") value)

-- what an object spells: its members are the amount, the cut and the returns, the kind where it names one, and so many others
abbrev pub numbers_with : ℕ → Data → Option OrderNumbers
numbers_with more value =
    if has_members (members_of_order value + more) (as_object value)
    then numbers_by (kind_in value) (whole_member (codes "amount") value) (cut_in value) (returns_in value)
    else None

-- the order of numbers without that fault
abbrev pub order_by_numbers : OrderNumbers → Option OrderFault → Result Order OrderFault
order_by_numbers numbers None = Ok (order_of numbers.kind numbers.amount numbers.cut numbers.returns)
order_by_numbers numbers (Some fault) = Err fault

-- the order of what is spelled, or its least fault: another shape is one
abbrev pub order_spelled : Option OrderNumbers → Result Order OrderFault
order_spelled (Some numbers) = order_by_numbers numbers (order_fault numbers.amount numbers.cut numbers.returns)
order_spelled None = Err Shape

-- the order that an object spells with so many members more, or its least fault
abbrev pub order_with : ℕ → Data → Result Order OrderFault
order_with more value = order_spelled (numbers_with more value)

-- the order that JSON spells, or its least fault: no JSON is another shape
abbrev pub order_in : Option Data → Result Order OrderFault
order_in (Some value) = order_with 0 value
order_in None = Err Shape

-- what an order asks of a pool, or its fault
abbrev pub close_asked : ℕ → Result Order OrderFault → Query
close_asked pool (Ok order) = Closes pool order
close_asked pool (Err fault) = ClosesFaulty fault

-- what the put of a pool asks by its body
unfoldable pub close_query : ℕ → List ℕ → Query
close_query pool body = close_asked pool (order_in (json_of body))
