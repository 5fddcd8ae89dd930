-- Keys are in total orders in which no two tie.
use Rattle.std.proofs.Common.{ℕ, List, ap}
use Rattle.std.specs.Ordering.{nat_cmp}
use Rattle.std.specs.Cmp.{IsTotalOrder}
use Rattle.std.specs.Cmp.Lexicographic.{slice_cmp}
use Rattle.std.proofs.lemmas.Map.Lookups.{CmpEqualImpliesEq, exact_pairs, exact_unsigned, exact_bytes}
use Rattle.std.proofs.lemmas.Cmp.{on_total, then_total, nat_cmp_total, nat_list_cmp_total}
use Rattle.society_core.specs.Keys.{return_cmp, segment_cmp, transmission_cmp}

-- keys of transmissions that compare alike are one
pub exact_transmissions : CmpEqualImpliesEq transmission_cmp
exact_transmissions a b h = ap (λ (p : List ℕ × ℕ). record { sender = p.0; number = p.1 }) (exact_pairs (slice_cmp nat_cmp) nat_cmp exact_bytes exact_unsigned (a.sender, a.number) (b.sender, b.number) h)

pub transmissions_total : IsTotalOrder transmission_cmp
transmissions_total = then_total (on_total (λ s. s.sender) nat_list_cmp_total) (on_total (λ s. s.number) nat_cmp_total)

-- keys of segments that compare alike are one
pub exact_segments : CmpEqualImpliesEq segment_cmp
exact_segments a b h = ap (λ (p : List ℕ × ℕ). record { sender = p.0; segment = p.1 }) (exact_pairs (slice_cmp nat_cmp) nat_cmp exact_bytes exact_unsigned (a.sender, a.segment) (b.sender, b.segment) h)

pub segments_total : IsTotalOrder segment_cmp
segments_total = then_total (on_total (λ s. s.sender) nat_list_cmp_total) (on_total (λ s. s.segment) nat_cmp_total)

-- keys of returns that compare alike are one
pub exact_returns : CmpEqualImpliesEq return_cmp
exact_returns a b h = ap (λ (p : List ℕ × ℕ). record { reporter = p.0; number = p.1 }) (exact_pairs (slice_cmp nat_cmp) nat_cmp exact_bytes exact_unsigned (a.reporter, a.number) (b.reporter, b.number) h)

pub returns_total : IsTotalOrder return_cmp
returns_total = then_total (on_total (λ s. s.reporter) nat_list_cmp_total) (on_total (λ s. s.number) nat_cmp_total)

-- numbers that compare alike are one
pub exact_numbers : CmpEqualImpliesEq nat_cmp
exact_numbers = exact_unsigned
