-- Representation, not meaning: the book of maps that lie in memory.
use Rattle.std.specs.Prelude.{ℕ, ◌≡◌, ◌≤◌, true, List, Vec, map, refl, unwrap_or}
use Rattle.std.specs.BTreeMap as tree
use Rattle.std.specs.BTreeMap.{BTreeMap}
use Rattle.std.specs.Coded.{Coded, code_by, coded×, coded_ℕ, coded_list}
use Rattle.std.specs.FinMap as finite
use Rattle.std.specs.Global.{Global}
use Rattle.std.specs.Ordering.{nat_cmp}
use Rattle.sender_segments.specs.Ways.{End, end_stated, is_reached}
use Rattle.society_core.specs.Book.{Book, Ends, Transmissions, ends_among, front_in, is_among}
use Rattle.society_core.specs.Keys.{bytes_cmp, coded_end, coded_return_key, coded_segment_key, coded_transmission_key, return_cmp, transmission_cmp}
use Rattle.society_core.specs.Orders.{Order, coded_order}
use Rattle.society_core.specs.declared.return_key.ReturnKey.{ReturnKey}
use Rattle.society_core.specs.declared.segment_key.SegmentKey.{SegmentKey}
use Rattle.society_core.specs.declared.transmission_key.TransmissionKey.{TransmissionKey}
use Rattle.work_ids.specs.SegmentEnds.{StatedEnd}
use Rattle.work_ids.specs.Segments.{greatest_rank}

-- entries with the bytes of each body
abbrev pub bodies_of : {K : Type 0} → List (K × Vec ℕ Global) → List (K × List ℕ)
bodies_of entries = map (λ entry. (entry.0, entry.1.items)) entries

-- the bodies of transmissions that a map keeps
abbrev pub transmissions_of : BTreeMap TransmissionKey (Vec ℕ Global) → Transmissions
transmissions_of kept = finite.from_entries (bodies_of kept.entries)

-- entries with what each end says, by the place of the segment that comes next
abbrev pub stated_by : List (SegmentKey × StatedEnd) → List (SegmentKey × End)
stated_by entries = map (λ entry. (entry.0, end_stated entry.1)) entries

-- the ends that a map keeps
abbrev pub ends_kept : BTreeMap SegmentKey StatedEnd → Ends
ends_kept kept = finite.from_entries (stated_by kept.entries)

-- the book of these entries
abbrev pub plain_book : List (TransmissionKey × Vec ℕ Global) → List (SegmentKey × StatedEnd) → List (ReturnKey × Vec ℕ Global) → List (ℕ × Order) → Book
plain_book transmissions ends returns pools = record {
  transmissions = finite.from_entries (bodies_of transmissions);
  ends = finite.from_entries (stated_by ends);
  returns = finite.from_entries (bodies_of returns);
  pools = finite.from_entries pools;
}

-- as four maps
abbrev pub coded_book : Coded Book
coded_book =
    code_by (finite.FinMap transmission_cmp (List ℕ) × (Ends × (finite.FinMap return_cmp (List ℕ) × finite.FinMap nat_cmp Order)))
    (coded× (finite.code coded_transmission_key (coded_list coded_ℕ)) (coded× (finite.code coded_segment_key coded_end) (coded× (finite.code coded_return_key (coded_list coded_ℕ)) (finite.code coded_ℕ coded_order))))
    (λ b. (b.transmissions, (b.ends, (b.returns, b.pools)))) (λ p. record { transmissions = p.0; ends = p.1.0; returns = p.1.1.0; pools = p.1.1.1 }) (λ _. refl)

-- the fronts that are kept are those of the transmissions and the ends, 0 for a sender that is not among them
abbrev pub HasFronts : BTreeMap (List ℕ) ℕ → Transmissions → Ends → Type 0
HasFronts fronts bodies ends = (sender : List ℕ) → unwrap_or (tree.get bytes_cmp fronts sender) 0 ≡ front_in bodies ends sender

-- the front that is kept for a sender is reached among these transmissions by these ends
abbrev pub IsReachedBy : BTreeMap (List ℕ) ℕ → Transmissions → Ends → List ℕ → Type 0
IsReachedBy fronts bodies ends sender =
    (is_reached (is_among bodies sender) (ends_among ends sender) (unwrap_or (tree.get bytes_cmp fronts sender) 0) ≡ true)
    × (unwrap_or (tree.get bytes_cmp fronts sender) 0 ≤ greatest_rank)
