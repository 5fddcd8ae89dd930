-- What is found of the old frames of a log without a header, up to one of them.
use Rattle.std.specs.Prelude.{◌≡◌, ◌≢◌, ℕ, ◌<◌, ◌≤◌, false, List, slice_index}
use Rattle.sqlite_wal.specs.Format.{commit_size}
use Rattle.sqlite_wal.specs.Recovery.{frame, sum_before}
use Rattle.log_reading.specs.Frames.{IsSummed, Joins, Commits, salts}

-- frame 1 counts by itself: its sums go on from frame 0, and it is not shut
abbrev pub CountsAlone : ℕ → List ℕ → Type 0
CountsAlone size log = IsSummed false size log 1 × (slice_index (salts size log 1) 0 ≢ 0)

-- Of the frames from 1 on that go on from one another, up to frame i, this is the last that ends a transaction, or 0, with the pages that the
-- file then has; behind them these are the sums.
pub record HasJoined (size : ℕ) (log : List ℕ) (i last pages : ℕ) (sums : ℕ × ℕ) : Type 0 where
  pub summed : sums ≡ sum_before size log i
  pub joined : (m : ℕ) → 2 ≤ m → m < i → Joins size log m
  pub earlier : last < i
  pub alone : last ≡ 1 → CountsAlone size log
  pub commits : last ≢ 0 → Commits size log last
  pub pages_there : last ≢ 0 → pages ≡ commit_size (frame size log last)
  pub later : (j : ℕ) → 1 ≤ j → last < j → j < i → (j ≡ 1 → CountsAlone size log) → commit_size (frame size log j) ≡ 0
