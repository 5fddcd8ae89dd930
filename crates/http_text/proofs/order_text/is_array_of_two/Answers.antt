use Rattle.std.proofs.Common.{ℕ, ◌==◌, sym, ap, arith}
use Rattle.serde_json.proofs.Views.{items_len-items_view}
use Rattle.http_text.proofs.order_text.is_array_of_two.Goals as goal

pub returns-in-Some : goal.returns-in-Some
returns-in-Some c =
    let vec = c.in-Some.elements.now in
    rw (sym c.in-Some.ensures, items_len-items_view vec.items) (ap (λ (n : ℕ). n == 2) (omega (arith, c.len.ensures, vec.ok.0)))
