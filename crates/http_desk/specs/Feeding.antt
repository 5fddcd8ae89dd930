-- Representation, not meaning: a request whose body is fed while it comes. What was read of it and not answered is its head, what was fed, and what is unread.
use Rattle.std.specs.Prelude.{◌≡◌, ℕ, ◌+◌, ◌≤◌, Bool, true, false, List, ◌++◌, length, take, Option, Result, Ok, Err}
use Rattle.cwr_files.specs.Fed.{Fed, WasFed}
use Rattle.http_desk.specs.Counted.{Known, bytes_known, reads_of}
use Rattle.http_text.specs.declared.connection_end.End.TheVariants.{Bad}
use Rattle.http_desk.specs.declared.counted.Counted.{Counted}
use Rattle.http_desk.specs.declared.fault.FaultKind.{FaultKind}
use Rattle.http_desk.specs.declared.feeding.Feeding.{Feeding}
use Rattle.http_desk.specs.declared.feeding.Feeding.TheVariants.{Whole, Cut, Refused}
use Rattle.http_desk.specs.declared.head.Head.{Head}
use Rattle.http_desk.specs.declared.input.Input.{Input}
use Rattle.http_desk.specs.Input.{unread, ReadsOn}
use Rattle.http_text.specs.Reads.{Awaits}
use Rattle.http_desk.specs.Upcoming.{EndsSo}

-- the head at the front of the bytes before, what was fed of the body, and what is unread
abbrev pub pending : List ℕ → Head → List ℕ → List ℕ → List ℕ
pending before head fed rest = (take head.length before ++ fed) ++ rest

-- all that was read of a request is pending, and so many bytes of its body are still to be fed
pub record HasFed (before rest : List ℕ) (turns new_turns : ℕ) (known new_known : Option (List ℕ)) (reads new_reads : ℕ) (head : Head) (sink : Fed) (left : ℕ) : Type 0 where
  pub fed : List ℕ
  pub was_fed : WasFed sink fed
  pub size : length fed + left ≡ head.body
  pub read_on : ReadsOn Awaits before (pending before head fed rest) turns new_turns known new_known reads new_reads

-- why feeding ended, with so many bytes of the body still to be fed: with none; at the end of the bytes; for want of memory; or more bytes were awaited
abbrev pub EndsFeeding : Result Feeding FaultKind → ℕ → List ℕ → Option (List ℕ) → Type 0
EndsFeeding (Ok Whole) left bytes known = left ≡ 0
EndsFeeding (Ok Cut) left bytes known = (society : ℕ) → EndsSo society bytes known Bad
EndsFeeding (Ok Refused) left bytes known = 1 ≤ left
EndsFeeding (Err kind) left bytes known = Awaits bytes

-- whether the end of the bytes was met
abbrev pub is_cut : Feeding → Bool
is_cut Whole = false
is_cut Cut = true
is_cut Refused = false

-- a request was fed, as far as it came
pub record FeedsRequest {R : Type 0} (remaining : Known R) (reader new_reader : Counted R) (input new_input : Input) (head : Head) (sink : Fed) (result : Result Feeding FaultKind) : Type 0 where
  pub left : ℕ
  pub so_far : HasFed (unread input) (unread new_input) input.turns new_input.turns (bytes_known remaining reader) (bytes_known remaining new_reader) (reads_of reader) (reads_of new_reader) head sink left
  pub ends : EndsFeeding result left (pending (unread input) head so_far.fed (unread new_input)) (bytes_known remaining new_reader)
