-- Lemmas on the JSON of orders.
use Rattle.std.proofs.Common.{◌≡◌, ◌≢◌, ℕ, List, ◌++◌, drop, Option, Some, None, Result, Ok, Err, option_map, refl, ap}
use Rattle.serde_json.specs.Data.{Data}
use Rattle.serde_json.specs.View.{items_view}
use Rattle.serde_json.specs.declared.value.Value.{Value}
use Rattle.society_core.specs.Orders.{Order, order_fault, order_of}
use Rattle.society_core.specs.Requests.{AsksElsewhere, Closes, ClosesFaulty}
use Rattle.society_core.specs.declared.order_fault.OrderFault.{OrderFault}
use Rattle.http_text.specs.JsonBodies.{json_of}
use Rattle.http_text.specs.OrderText.{OrderNumbers, close_asked, close_query, named_numbers, order_in, order_spelled}

-- ---- what numbers ask

pub spells_order : (numbers : OrderNumbers) (order : Order) → order_fault numbers.amount numbers.cut numbers.returns ≡ None
    → order ≡ order_of numbers.kind numbers.amount numbers.cut numbers.returns → Ok order ≡ order_spelled (Some numbers)
spells_order numbers order none is = rw none (ap (λ (o : Order). Ok o) is)

pub spells_fault : (numbers : OrderNumbers) (fault : OrderFault) → order_fault numbers.amount numbers.cut numbers.returns ≡ Some fault
    → Err fault ≡ order_spelled (Some numbers)
spells_fault numbers fault is = rw is refl

-- ---- the put of a pool asks something

asked_some : (pool : ℕ) (order : Result Order OrderFault) → close_asked pool order ≢ AsksElsewhere
asked_some pool (Ok order) = λ e. cc
asked_some pool (Err fault) = λ e. cc

pub close_some : (pool : ℕ) (body : List ℕ) → close_query pool body ≢ AsksElsewhere
unfolding close_query
close_some pool body = asked_some pool (order_in (json_of body))

-- ---- lists of names with numbers

-- these and then the others, where they are there
abbrev pub behind : List (List ℕ × ℕ) → Option (List (List ℕ × ℕ)) → Option (List (List ℕ × ℕ))
behind done others = option_map (λ (rest : List (List ℕ × ℕ)). done ++ rest) others

-- so far these elements were names with numbers
abbrev pub ReadSoFar : (Data → Option (List ℕ × ℕ)) → List Value → ℕ → List (List ℕ × ℕ) → Type 0
ReadSoFar entry values count done =
    named_numbers entry (items_view values) ≡ behind done (named_numbers entry (items_view (drop count values)))
