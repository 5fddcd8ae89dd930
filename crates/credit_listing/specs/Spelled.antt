-- What a line spells: an order in JSON, and the recordings that are wanted of it (profile).
use Rattle.std.specs.Prelude.{ℕ, ◌≡◌, List, [], ◌∷◌, Option, Some, None, Result, Ok, Err, ⊤, codes, option_and_then}
use Rattle.std.specs.BTreeMap.{is_at}
use Rattle.std.specs.BTreeSet.{BTreeSet, contains}
use Rattle.std.specs.List.{list_any}
use Rattle.std.specs.Result.{result_ok}
use Rattle.http_text.specs.JsonBodies.{json_of}
use Rattle.http_text.specs.OrderText.{order_with}
use Rattle.serde_json.specs.Data.{Data, Items, no_items, item}
use Rattle.serde_json.specs.Find.{as_array, as_str, get}
use Rattle.society_core.specs.Keys.{bytes_cmp}
use Rattle.society_core.specs.Orders.{Order}
use Rattle.society_core.specs.declared.order_fault.OrderFault.{OrderFault}
use Rattle.society_core.specs.declared.order_fault.OrderFault.TheVariants.{Shape}
use Rattle.work_ids.specs.Isrc.{isrc_of_text}
use Rattle.credit_listing.specs.declared.order_line.OrderLine.{OrderLine}

-- an order, and the recordings that are wanted of it: all where none are named
abbrev pub Spelled : Type 0
Spelled = Order × Option (List (List ℕ))

-- the recording that a value names: an ISRC in a text
abbrev pub recording_named : Data → Option (List ℕ)
recording_named value = option_and_then (λ text. result_ok (isrc_of_text text)) (as_str value)

-- the first and all others, where they are there
abbrev pub isrc_before : Option (List ℕ) → Option (List (List ℕ)) → Option (List (List ℕ))
isrc_before (Some first) (Some others) = Some (first ∷ others)
isrc_before (Some first) None = None
isrc_before None others = None

-- recordings, where all elements name one
abbrev pub recordings_among : Items → Option (List (List ℕ))
recordings_among no_items = Some []
recordings_among (item value items) = isrc_before (recording_named value) (recordings_among items)

-- an array of them
abbrev pub recordings_named : Data → Option (List (List ℕ))
recordings_named value = option_and_then recordings_among (as_array value)

-- an order with what is wanted of it, or its fault
abbrev pub spelled_with : Option (List (List ℕ)) → Result Order OrderFault → Result Spelled OrderFault
spelled_with wanted (Ok order) = Ok (order, wanted)
spelled_with wanted (Err fault) = Err fault

-- the order of a value that names so the recordings that it wants: what names none is another shape
abbrev pub spelled_for : Data → Option (List (List ℕ)) → Result Spelled OrderFault
spelled_for value (Some recordings) = spelled_with (Some recordings) (order_with 1 value)
spelled_for value None = Err Shape

-- the order of a value, by its member `isrcs`
abbrev pub order_spelled_by : Data → Option Data → Result Spelled OrderFault
order_spelled_by value None = spelled_with None (order_with 0 value)
order_spelled_by value (Some named) = spelled_for value (recordings_named named)

-- what JSON spells: no JSON is another shape
abbrev pub order_spelled_in : Option Data → Result Spelled OrderFault
order_spelled_in None = Err Shape
order_spelled_in (Some value) = order_spelled_by value (get (codes "isrcs") value)

-- what a line spells
unfoldable pub order_on_line : List ℕ → Result Spelled OrderFault
order_on_line line = order_spelled_in (json_of line)

-- a set has the names of a list, and no other
abbrev pub IsSetOf : List (List ℕ) → BTreeSet (List ℕ) → Type 0
IsSetOf names set = (isrc : List ℕ) → contains bytes_cmp set isrc ≡ list_any (λ name. is_at (bytes_cmp name) isrc) names

-- all recordings are wanted, or those that are named
abbrev pub AreWanted : Option (List (List ℕ)) → Option (BTreeSet (List ℕ)) → Type 0
AreWanted None None = ⊤
AreWanted (Some names) (Some set) = IsSetOf names set
AreWanted _ _ = ⊥

-- what was read of a line is what it spells
abbrev pub ReadsAs : Result Spelled OrderFault → Result OrderLine OrderFault → Type 0
ReadsAs (Ok spelled) (Ok read) = (read.order ≡ spelled.0) × AreWanted spelled.1 read.wanted
ReadsAs (Err fault) (Err told) = told ≡ fault
ReadsAs _ _ = ⊥
