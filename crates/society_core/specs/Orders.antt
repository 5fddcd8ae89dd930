-- Orders that close a pool: the right that it pays, an amount, a cut of each sender's works, and the returns that are paid.
use Rattle.std.specs.Prelude.{ℕ, Bool, true, false, not, List, [], ◌∷◌, ◌==◌, ◌&&◌, ◌||◌, ◌≡◌, ◌↔◌, Contains, Option, Some, None, is_none, if◌then◌else◌, Result, Ok, Err, bytes_eq, length, map, nat_lt, nat_le, refl}
use Rattle.std.specs.Cmp.Lexicographic.{pointwise}
use Rattle.std.specs.Coded.{Coded, code_by, coded×, coded_ℕ, coded_list}
use Rattle.std.specs.List.{list_any, list_all}
use Rattle.share_rules.specs.contracts.kind.Kind.{the_row as kind_row}
use Rattle.share_rules.specs.declared.kind.Kind.{Kind}
use Rattle.share_rules.specs.declared.kind.Kind.TheVariants.{Performing, Mechanical}
use Rattle.work_ids.specs.Numbers.{is_return_number}
use Rattle.work_ids.specs.Segments.{is_transmission_number}
use Rattle.work_ids.specs.SenderKey.{is_sender_key}
use Rattle.society_core.specs.Keys.{ascending, coded_return_key, coded_transmission_key, return_cmp, return_key, transmission_cmp, transmission_key}
use Rattle.society_core.specs.declared.order.OrderError.{OrderError}
use Rattle.society_core.specs.declared.order.OrderError.TheVariants as errors
use Rattle.society_core.specs.declared.order_fault.OrderFault.{OrderFault}
use Rattle.society_core.specs.declared.order_fault.OrderFault.TheVariants.{Shape, OutOfRange, TooLong, NamedTwice}
use Rattle.society_core.specs.declared.return_key.ReturnKey.{ReturnKey}
use Rattle.society_core.specs.declared.transmission_key.TransmissionKey.{TransmissionKey}

-- an order: the right that the pool pays, units of money, of each sender of the cut its last transmission that counts, and the returns, both ascending (profile)
pub record Order : Type 0 where
  pub kind : Kind
  pub amount : ℕ
  pub cut : List TransmissionKey
  pub returns : List ReturnKey

-- as a kind, an amount and two lists
abbrev pub coded_order : Coded Order
coded_order =
    code_by (Kind × (ℕ × (List TransmissionKey × List ReturnKey)))
    (coded× kind_row.coded (coded× coded_ℕ (coded× (coded_list coded_transmission_key) (coded_list coded_return_key))))
    (λ o. (o.kind, (o.amount, (o.cut, o.returns))))
    (λ p. record { kind = p.0; amount = p.1.0; cut = p.1.1.0; returns = p.1.1.1 }) (λ _. refl)

-- whether two keys are one
abbrev pub same_transmission_key : TransmissionKey → TransmissionKey → Bool
same_transmission_key a b = bytes_eq a.sender b.sender && a.number == b.number

-- whether two keys are one
abbrev pub same_return_key : ReturnKey → ReturnKey → Bool
same_return_key a b = bytes_eq a.reporter b.reporter && a.number == b.number

-- whether two kinds are one
abbrev pub same_kind : Kind → Kind → Bool
same_kind Performing Performing = true
same_kind Mechanical Mechanical = true
same_kind _ _ = false

-- whether two orders are one: an equal kind, an equal amount, an equal cut, equal returns (profile)
abbrev pub same_order : Order → Order → Bool
same_order a b = same_kind a.kind b.kind && a.amount == b.amount && pointwise same_transmission_key a.cut b.cut && pointwise same_return_key a.returns b.returns

-- whether an order names a return
abbrev pub names_return : ReturnKey → Order → Bool
names_return key order = list_any (λ named. same_return_key named key) order.returns

-- whether an element of a list is the same as a later one
abbrev pub has_repeat : {X : Type 0} → (X → X → Bool) → List X → Bool
has_repeat same [] = false
has_repeat same (x ∷ xs) = list_any (same x) xs || has_repeat same xs

-- whether two entries of a cut have one sender
abbrev pub same_sender : List ℕ × ℕ → List ℕ × ℕ → Bool
same_sender a b = bytes_eq a.0 b.0

-- whether two names with numbers are one
abbrev pub same_numbered : List ℕ × ℕ → List ℕ × ℕ → Bool
same_numbered a b = bytes_eq a.0 b.0 && a.1 == b.1

-- the number of an order fault (profile)
abbrev pub order_fault_number : OrderFault → ℕ
order_fault_number Shape = 1
order_fault_number OutOfRange = 2
order_fault_number TooLong = 3
order_fault_number NamedTwice = 4

-- order fault 2: a number is out of its range (profile)
abbrev pub is_out_of_range : ℕ → List (List ℕ × ℕ) → List (List ℕ × ℕ) → Bool
is_out_of_range amount cut returns =
    nat_lt 1000000000000 amount || not (list_all (λ c. is_transmission_number c.1) cut) || not (list_all (λ r. is_return_number r.1) returns)

-- order fault 3: more than 200 senders or 1,000 returns, repeats counted (profile)
abbrev pub is_too_long : List (List ℕ × ℕ) → List (List ℕ × ℕ) → Bool
is_too_long cut returns = nat_lt 200 (length cut) || nat_lt 1000 (length returns)

-- order fault 4: a sender stands twice in the cut, or a return is named twice (profile)
abbrev pub names_twice : List (List ℕ × ℕ) → List (List ℕ × ℕ) → Bool
names_twice cut returns = has_repeat same_sender cut || has_repeat same_numbered returns

-- the least fault of the numbers of an order, none where they make one (profile)
abbrev pub order_fault : ℕ → List (List ℕ × ℕ) → List (List ℕ × ℕ) → Option OrderFault
order_fault amount cut returns =
    if is_out_of_range amount cut returns then Some OutOfRange
    else (if is_too_long cut returns then Some TooLong else (if names_twice cut returns then Some NamedTwice else None))

-- the order of this kind that these numbers make (profile)
abbrev pub order_of : Kind → ℕ → List (List ℕ × ℕ) → List (List ℕ × ℕ) → Order
order_of kind amount cut returns = record {
  kind = kind;
  amount = amount;
  cut = ascending transmission_cmp (map (λ c. transmission_key c.0 c.1) cut);
  returns = ascending return_cmp (map (λ r. return_key r.0 r.1) returns);
}

-- an order of this kind where no fault holds, else the least one; memory may run out only where none holds
abbrev pub OrdersAs : Kind → ℕ → List (List ℕ × ℕ) → List (List ℕ × ℕ) → Result Order OrderError → Type 0
OrdersAs kind amount cut returns (Ok order) = (order_fault amount cut returns ≡ None) × (order ≡ order_of kind amount cut returns)
OrdersAs kind amount cut returns (Err (errors.Order fault)) = order_fault amount cut returns ≡ Some fault
OrdersAs kind amount cut returns (Err errors.Memory) = order_fault amount cut returns ≡ None

-- the sender and the number of a key
abbrev pub sent_pair : TransmissionKey → List ℕ × ℕ
sent_pair key = (key.sender, key.number)

-- the reporter and the number of a key
abbrev pub return_pair : ReturnKey → List ℕ × ℕ
return_pair key = (key.reporter, key.number)

-- what an order keeps: its amount is within the limit, it has at most 200 senders and 1,000 returns, its numbers have no fault, its
-- senders are senders, and its cut and its returns ascend (profile)
pub record IsOrder (order : Order) : Type 0 where
  pub amount : nat_le order.amount 1000000000000 ≡ true
  pub senders : nat_le (length order.cut) 200 ≡ true
  pub named : nat_le (length order.returns) 1000 ≡ true
  pub faultless : is_none (order_fault order.amount (map sent_pair order.cut) (map return_pair order.returns)) ≡ true
  pub sender_keys : list_all (λ key. is_sender_key key.sender) order.cut ≡ true
  pub cut : ascending transmission_cmp order.cut ≡ order.cut
  pub returns : ascending return_cmp order.returns ≡ order.returns

-- orders of one kind and one amount with the same transmissions in their cuts and the same returns are one
abbrev pub OrdersAreSets : Type 0
OrdersAreSets =
    (a b : Order) → IsOrder a → IsOrder b → a.kind ≡ b.kind → a.amount ≡ b.amount → ((key : TransmissionKey) → Contains a.cut key ↔ Contains b.cut key)
    → ((key : ReturnKey) → Contains a.returns key ↔ Contains b.returns key) → a ≡ b
