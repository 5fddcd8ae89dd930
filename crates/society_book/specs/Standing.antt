-- Which of a sender's numbers are held, by the segments that its line skips (representation).
use Rattle.std.specs.Prelude.{ℕ, ◌<◌, ◌≡◌, ◌≤◌, ◌&&◌, Bool, List, [], ◌∷◌, filter, flat_map, nat_lt, not}
use Rattle.std.specs.List.{list_any}
use Rattle.sender_segments.specs.Ways.{StatedEnds, leads_to}
use Rattle.society_core.specs.Book.{Book, ends_of, numbers_of}
use Rattle.society_book.specs.declared.skips.Skip.{Skip}
use Rattle.work_ids.specs.Segments.{sequence_of}

-- whether a number is above one and below another
abbrev pub is_strictly_between : ℕ → ℕ → ℕ → Bool
is_strictly_between above below n = nat_lt above n && nat_lt n below

-- the numbers of a sender's transmissions above a number, ascending
abbrev pub numbers_above : Book → List ℕ → ℕ → List ℕ
numbers_above book sender above = filter (nat_lt above) (numbers_of book sender)

-- those above one number and below another
abbrev pub numbers_within : Book → List ℕ → ℕ → ℕ → List ℕ
numbers_within book sender above below = filter (is_strictly_between above below) (numbers_of book sender)

-- whether a number is one of those that are skipped
abbrev pub is_skipped : List Skip → ℕ → Bool
is_skipped skips n = list_any (λ skip. is_strictly_between skip.above skip.below n) skips

-- skips from one rank on that rise up to another
abbrev pub SkipsRise : ℕ → List Skip → ℕ → Type 0
SkipsRise low [] high = low ≤ high
SkipsRise low (skip ∷ skips) high = (low ≤ skip.above) × (skip.above < skip.below) × SkipsRise skip.below skips high

-- up to a front the ends skip these numbers, and lead to all others
pub record AreSkipped (ends : StatedEnds) (front : ℕ) (skips : List Skip) : Type 0 where
  pub rise : SkipsRise 0 skips front
  pub skipped : (n : ℕ) → 1 ≤ sequence_of n → n ≤ front → is_skipped skips n ≡ not (leads_to ends n)

-- the numbers of a sender's transmissions that stand in the segments which its ends skip up to a front
pub record ListsSkipped (book : Book) (sender : List ℕ) (front : ℕ) (list : List ℕ) : Type 0 where
  pub skips : List Skip
  pub are : AreSkipped (ends_of book sender) front skips
  pub numbers : list ≡ flat_map (λ skip. numbers_within book sender skip.above skip.below) skips
