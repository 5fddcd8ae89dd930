-- Where transmissions, ends of segments and returns stand in the book: the keys of its maps, and their order.
use Rattle.std.specs.Prelude.{ℕ, List, refl, map, true}
use Rattle.std.specs.Ordering.{nat_cmp, ordering_then}
use Rattle.std.specs.declared.cmp.Ordering.{Ordering}
use Rattle.std.specs.Cmp.Lexicographic.{slice_cmp}
use Rattle.std.specs.Coded.{Coded, code_by, coded×, coded_ℕ, coded_list}
use Rattle.std.specs.FinMap as finite
use Rattle.sender_segments.specs.Ways.{End}
use Rattle.society_core.specs.declared.return_key.ReturnKey.{ReturnKey}
use Rattle.society_core.specs.declared.segment_key.SegmentKey.{SegmentKey}
use Rattle.society_core.specs.declared.transmission_key.TransmissionKey.{TransmissionKey}

-- bytes in the order of a dictionary
abbrev pub bytes_cmp : List ℕ → List ℕ → Ordering
bytes_cmp a b = slice_cmp nat_cmp a b

-- the key of a sender's transmission
abbrev pub transmission_key : List ℕ → ℕ → TransmissionKey
transmission_key sender number = record { sender = sender; number = number }

-- keys of transmissions in the order of their senders' bytes, and then of their numbers
abbrev pub transmission_cmp : TransmissionKey → TransmissionKey → Ordering
transmission_cmp a b = ordering_then (bytes_cmp a.sender b.sender) (nat_cmp a.number b.number)

-- as a pair of bytes and a number
abbrev pub coded_transmission_key : Coded TransmissionKey
coded_transmission_key =
    code_by (List ℕ × ℕ) (coded× (coded_list coded_ℕ) coded_ℕ) (λ k. (k.sender, k.number)) (λ p. record { sender = p.0; number = p.1 }) (λ _. refl)

-- the key of a segment of a sender
abbrev pub segment_key : List ℕ → ℕ → SegmentKey
segment_key sender segment = record { sender = sender; segment = segment }

-- keys of segments in the order of their senders' bytes, and then of their places
abbrev pub segment_cmp : SegmentKey → SegmentKey → Ordering
segment_cmp a b = ordering_then (bytes_cmp a.sender b.sender) (nat_cmp a.segment b.segment)

-- as a pair of bytes and a number
abbrev pub coded_segment_key : Coded SegmentKey
coded_segment_key =
    code_by (List ℕ × ℕ) (coded× (coded_list coded_ℕ) coded_ℕ) (λ k. (k.sender, k.segment)) (λ p. record { sender = p.0; segment = p.1 }) (λ _. refl)

-- the end of a segment as a pair of numbers
abbrev pub coded_end : Coded End
coded_end = code_by (ℕ × ℕ) (coded× coded_ℕ coded_ℕ) (λ e. (e.last, e.next)) (λ p. record { last = p.0; next = p.1 }) (λ _. refl)

-- the key of a reporter's return
abbrev pub return_key : List ℕ → ℕ → ReturnKey
return_key reporter number = record { reporter = reporter; number = number }

-- keys of returns in the order of their reporters' bytes, and then of their numbers
abbrev pub return_cmp : ReturnKey → ReturnKey → Ordering
return_cmp a b = ordering_then (bytes_cmp a.reporter b.reporter) (nat_cmp a.number b.number)

-- as a pair of bytes and a number
abbrev pub coded_return_key : Coded ReturnKey
coded_return_key =
    code_by (List ℕ × ℕ) (coded× (coded_list coded_ℕ) coded_ℕ) (λ k. (k.reporter, k.number)) (λ p. record { reporter = p.0; number = p.1 }) (λ _. refl)

-- some keys in ascending order, each once
abbrev pub ascending : {K : Type 0} → (K → K → Ordering) → List K → List K
ascending cmp keys = finite.keys (finite.from_entries {R = cmp} (map (λ key. (key, true)) keys))
