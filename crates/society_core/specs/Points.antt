-- What the performances of a pool's returns come to, for each recording.
use Rattle.std.specs.Prelude.{ℕ, ◌≡◌, ◌*◌, ◌≤◌, ◌++◌, Bool, List, [], Option, Some, None, OnOk, Result, is_some, if◌then◌else◌, map, unwrap_or, bytes_eq}
use Rattle.std.specs.BTreeMap as tree
use Rattle.std.specs.List.{AllByRecursion, filter, flat_map, list_any, sum_by}
use Rattle.perf_returns.specs.Returns.{performances_in}
use Rattle.perf_returns.specs.declared.performance.Performance.{Performance}
use Rattle.society_core.specs.Book.{Book, return_at}
use Rattle.society_core.specs.Keys.{ascending, bytes_cmp}
use Rattle.society_core.specs.Orders.{Order}
use Rattle.society_core.specs.declared.points.Tally.{Tally}

-- all rows of the returns that an order names
abbrev pub rows_named : Book → Order → List Performance
rows_named book order = flat_map (λ key. performances_in (unwrap_or (return_at book key) [])) order.returns

-- the points of a performance: its plays times the seconds of each (profile)
abbrev pub points_of : Performance → ℕ
points_of row = row.plays * row.seconds

-- whether a performance is one of a recording
abbrev pub is_performance_of : List ℕ → Performance → Bool
is_performance_of isrc row = bytes_eq row.isrc isrc

-- the points of a recording: the sum over all rows with its ISRC (profile)
abbrev pub points_in : List Performance → List ℕ → ℕ
points_in rows isrc = sum_by points_of (filter (is_performance_of isrc) rows)

-- the ISRCs of some rows, ascending, each once
abbrev pub recordings_in : List Performance → List (List ℕ)
recordings_in rows = ascending bytes_cmp (map (λ row. row.isrc) rows)

-- each recording of some rows with its points, ascending by ISRC (profile)
abbrev pub points_by_recording : List Performance → List (List ℕ × ℕ)
points_by_recording rows = map (λ isrc. (isrc, points_in rows isrc)) (recordings_in rows)

-- the points of a recording, none where no row has its ISRC
abbrev pub points_known : List Performance → List ℕ → Option ℕ
points_known rows isrc = if list_any (is_performance_of isrc) rows then Some (points_in rows isrc) else None

-- a performance has at least one point, and at most those of 1,000,000 plays of 10,000 seconds (profile)
abbrev pub HasPoints : Performance → Type 0
HasPoints row = (1 ≤ points_of row) × (points_of row ≤ 10000000000)

-- what a tally of some performances keeps, all with points: those of each recording of theirs, and no other's
pub record Tallies (tally : Tally) (rows : List Performance) : Type 0 where
  pub points : (isrc : List ℕ) → tree.get bytes_cmp tally.totals isrc ≡ points_known rows isrc
  pub played : AllByRecursion HasPoints rows

-- behind these performances a tally gets these more
abbrev pub TalliesOn : {T E : Type 0} → Tally → List Performance → List Performance → Result T E → Tally → Type 0
TalliesOn old rows more result new = Tallies old rows → OnOk result (Tallies new (rows ++ more))

-- whether a tally has points for a recording
abbrev pub is_tallied : Tally → List ℕ → Bool
is_tallied tally isrc = is_some (tree.get bytes_cmp tally.totals isrc)
