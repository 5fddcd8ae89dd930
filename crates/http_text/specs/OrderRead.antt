-- Representation, not meaning: the numbers of an order as they were read.
use Rattle.http_text.specs.OrderText.{OrderNumbers}
use Rattle.http_text.specs.declared.order_text.Numbers.{Numbers}

-- the kind, the amount and the two lists
abbrev pub numbers_read : Numbers → OrderNumbers
numbers_read numbers = record { kind = numbers.kind; amount = numbers.amount; cut = numbers.cut.items; returns = numbers.returns.items }
