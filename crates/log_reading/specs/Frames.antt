-- The frames of a log (SQLite's file format, section 4.1), and which of them go on from those before.
use Rattle.std.specs.Prelude.{◌≡◌, ◌≢◌, ℕ, ◌+◌, ◌<◌, ◌≤◌, Bool, false, List, length}
use Rattle.sqlite_wal.specs.Format.{part, stored_sum, IsSigned, is_big, page_number, commit_size, frame_sum}
use Rattle.sqlite_wal.specs.Recovery.{frame_at, header, frame, sum_before}

-- a frame names a page, and its two sums go on from those before it, in this order of bytes (4.2)
pub record SumsFrom (big : Bool) (before : ℕ × ℕ) (bytes : List ℕ) : Type 0 where
  pub page : page_number bytes ≢ 0
  pub sum : frame_sum big before bytes ≡ stored_sum bytes 16

-- frame i, from 0, is in the log as a whole
abbrev pub HasFrame : ℕ → List ℕ → ℕ → Type 0
HasFrame size log i = frame_at size i + (24 + size) ≤ length log

-- it is there, and its sums go on from those of the frame before, or of the header
pub record IsSummed (big : Bool) (size : ℕ) (log : List ℕ) (i : ℕ) : Type 0 where
  pub within : HasFrame size log i
  pub sums : SumsFrom big (sum_before size log i) (frame size log i)

-- the two salts of a frame, by which it tells to which life of the log it belongs
abbrev pub salts : ℕ → List ℕ → ℕ → List ℕ
salts size log i = part (frame size log i) 8 8

-- the salts of the log's header
abbrev pub own_salts : List ℕ → List ℕ
own_salts log = part (header log) 16 8

-- a frame ends a transaction: it says how many pages the file then has
abbrev pub Commits : ℕ → List ℕ → ℕ → Type 0
Commits size log i = commit_size (frame size log i) ≢ 0

-- a log has a header that is as it was written
pub record HasHeader (log : List ℕ) : Type 0 where
  pub long : 32 ≤ length log
  pub signed : IsSigned (header log)

-- in a log with a header: frame i goes on from the one before it, and has the log's salts
abbrev pub Follows : ℕ → List ℕ → ℕ → Type 0
Follows size log i = IsSummed (is_big (header log)) size log i × (salts size log i ≡ own_salts log)

-- the log ends behind its first k frames: each of them goes on from the one before, and the next does not
pub record IsEnd (size : ℕ) (log : List ℕ) (k : ℕ) : Type 0 where
  pub before : (i : ℕ) → i < k → Follows size log i
  pub ends : ¬ Follows size log k

-- of a log without a header: frame i, from 2, goes on from the one before it, with the salts of frame 1, and as this machine writes
abbrev pub Joins : ℕ → List ℕ → ℕ → Type 0
Joins size log i = IsSummed false size log i × (salts size log i ≡ salts size log 1)
