-- Which logs a stop of the office can leave beside a database's file, and which are damaged (profile).
use Rattle.std.specs.Prelude.{◌≡◌, ◌≢◌, ◌⊎◌, ℕ, ◌+◌, ◌<◌, ◌≤◌, List, length, slice_index}
use Rattle.sqlite_wal.specs.Format.{be32, content, page_number, commit_size, is_big}
use Rattle.sqlite_wal.specs.PageSize.{IsPageSize, size_in_file}
use Rattle.sqlite_wal.specs.Recovery.{frame_at, frame, header, file_page}
use Rattle.log_reading.specs.Frames.{HasHeader, IsSummed, Follows, IsEnd, Joins, Commits, salts, own_salts}
use Rattle.log_reading.specs.OldFrames.{CountsAlone}

-- each page of the file ends in a sum of eight bytes (SQLite's cksumvfs): only the office writes to such a file
pub record HasSums (db : List ℕ) : Type 0 where
  pub long : 20 < length db
  pub reserved : slice_index db 20 ≡ 8

-- What is written behind the end has another byte for the first of the log's salts, until all of it is flushed, and then one byte ends a
-- commit: so the place of that byte is there, and does not hold the salts' own, wherever a stop leaves a log.
pub record IsShut (size : ℕ) (log : List ℕ) (k : ℕ) : Type 0 where
  pub there : frame_at size k + 9 ≤ length log
  pub shut : slice_index log (frame_at size k + 8) ≢ slice_index log 16

-- the first k frames are whole transactions
abbrev pub EndsWhole : ℕ → List ℕ → ℕ → Type 0
EndsWhole size log k = (i : ℕ) → i + 1 ≡ k → Commits size log i

-- Frame i, behind an end at k, ends a transaction of this log. Where its sums cannot be tried, since frame k is lost, its salts tell.
pub record EndsPast (size : ℕ) (log : List ℕ) (k i : ℕ) : Type 0 where
  pub behind : k ≤ i
  pub commits : Commits size log i
  pub own : IsSummed (is_big (header log)) size log i ⊎ ((i ≡ k + 1) × (salts size log i ≡ own_salts log))

-- Behind an end at k a transaction ended before frame n, and all frames since go on from it.
pub record EndedBehind (size : ℕ) (log : List ℕ) (k n : ℕ) : Type 0 where
  pub last : ℕ
  pub ends : EndsPast size log k last
  pub earlier : last < n
  pub follow : (m : ℕ) → last < m → m < n → Follows size log m

-- Behind an end at k one transaction ended, and the next, which goes on from it, ends with frame j: both were flushed. The office writes fewer
-- than 2,000 pages in one piece, and a stop leaves one piece behind the end.
pub record GoesOnBehind (size : ℕ) (log : List ℕ) (k j : ℕ) : Type 0 where
  pub ended : EndedBehind size log k j
  pub follows : Follows size log j
  pub commits : Commits size log j
  pub few : j + 1 < 2000

-- A log with a header as a stop leaves it: it ends behind whole transactions, with the place behind them shut, and nothing that was flushed
-- stands there. Of a file without page sums only the last is wanted, since SQLite leaves logs too.
pub record StandsWith (log db : List ℕ) : Type 0 where
  pub version : be32 log 4 ≡ 3007000
  pub size : ℕ
  pub named : be32 log 8 ≡ size
  pub allowed : IsPageSize size
  pub end : ℕ
  pub ends : IsEnd size log end
  pub closed : HasSums db → EndsWhole size log end × IsShut size log end
  pub last : (j : ℕ) → ¬ GoesOnBehind size log end j

-- Of a log without a header, frame c is the last that ends a transaction, among those from frame 1 on that go on from one another. Frame 0 has
-- lost its beginning where a log is begun anew. Frame 1 alone counts where its own sums go on from it, and it is not shut.
pub record IsOldEnd (size : ℕ) (log : List ℕ) (c : ℕ) : Type 0 where
  pub some : 1 ≤ c
  pub join : (i : ℕ) → 2 ≤ i → i ≤ c → Joins size log i
  pub alone : c ≡ 1 → CountsAlone size log
  pub commits : Commits size log c
  pub last : (j : ℕ) → c < j → ((i : ℕ) → 2 ≤ i → i ≤ j → Joins size log i) → commit_size (frame size log j) ≡ 0

-- frame i has the newest content of a page, of the frames up to c, and the file has another or none
pub record Lacks (size : ℕ) (log db : List ℕ) (c i : ℕ) : Type 0 where
  pub some : 1 ≤ i
  pub upto : i ≤ c
  pub numbered : page_number (frame size log i) ≢ 0
  pub kept : page_number (frame size log i) ≤ commit_size (frame size log c)
  pub newest : (j : ℕ) → i < j → j ≤ c → page_number (frame size log j) ≢ page_number (frame size log i)
  pub other : file_page size db (page_number (frame size log i)) ≢ content (frame size log i)

-- A log without a header as a stop leaves it: it is new, or is begun anew. That begins with its first byte, and only once the file has all
-- pages of the old frames.
pub record StandsWithout (log db : List ℕ) : Type 0 where
  pub begun : HasSums db → 0 < length log → slice_index log 0 ≢ 0x37
  pub held : IsPageSize (size_in_file db) → (c i : ℕ) → IsOldEnd (size_in_file db) log c → ¬ Lacks (size_in_file db) log db c i

-- a log is as a stop of the office, at any moment, can leave it beside this file
abbrev pub Stands : List ℕ → List ℕ → Type 0
Stands log db = (HasHeader log × StandsWith log db) ⊎ ((¬ HasHeader log) × StandsWithout log db)
