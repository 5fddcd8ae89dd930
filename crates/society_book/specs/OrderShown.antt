-- What of the order that closed a pool is known (representation).
use Rattle.std.specs.Prelude.{ℕ, ◌≡◌, List, Option, Some, option_map}
use Rattle.share_rules.specs.declared.kind.Kind.{Kind}
use Rattle.society_core.specs.Book.{Book, order_at}
use Rattle.society_core.specs.Keys.{ascending, return_cmp, transmission_cmp}
use Rattle.society_core.specs.Orders.{Order}
use Rattle.society_book.specs.Items.{return_keys, transmission_keys}

-- this is the amount of the pool, none where it is not closed
abbrev pub IsAmount : ℕ → Book → Option ℕ → Type 0
IsAmount pool book amount = amount ≡ option_map (λ order. order.amount) (order_at book pool)

-- this is the right that the pool pays, where it is closed
abbrev pub IsKindOf : ℕ → Book → Kind → Type 0
IsKindOf pool book kind = (order : Order) → order_at book pool ≡ Some order → kind ≡ order.kind

-- these are the parts of the keys of its cut, where it is closed
abbrev pub IsCutOf : ℕ → Book → List (List ℕ × ℕ) → Type 0
IsCutOf pool book cut = (order : Order) → order_at book pool ≡ Some order → ascending transmission_cmp (transmission_keys cut) ≡ order.cut

-- these are the parts of the keys of the returns that it pays, where it is closed
abbrev pub AreReturnsOf : ℕ → Book → List (List ℕ × ℕ) → Type 0
AreReturnsOf pool book returns = (order : Order) → order_at book pool ≡ Some order → ascending return_cmp (return_keys returns) ≡ order.returns
