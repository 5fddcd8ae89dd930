-- How lines are cut out of the bytes that a reader gives.
use Rattle.std.specs.Prelude.{◌≡◌, ◌≢◌, ◌⊎◌, ℕ, ◌-◌, ◌<◌, Bool, false, true, List, [], ◌∷◌, ⊤, ◌++◌, length, slice_index}
use Rattle.std.specs.Io.KnownBytes.{Consumes, IsAtEnd}
use Rattle.std.specs.List.{AllByRecursion}
use Rattle.http_desk.specs.Counted.{Known, bytes_known}
use Rattle.http_desk.specs.Input.{all_of, unread}
use Rattle.http_desk.specs.declared.counted.Counted.{Counted}
use Rattle.http_desk.specs.declared.fault.FaultKind.{FaultKind}
use Rattle.http_desk.specs.declared.fault.FaultKind.TheVariants.{Read, Write}
use Rattle.http_desk.specs.declared.input.Input.{Input}
use Rattle.society_core.specs.State.{Rises}

-- none of so many bytes at the front is a line feed
abbrev pub NoFeed : List ℕ → ℕ → Type 0
NoFeed bytes count = (place : ℕ) → place < count → slice_index bytes place ≢ 10

-- bytes are a line with its end: their last byte is a line feed, and no other is
abbrev pub IsWholeLine : List ℕ → Type 0
IsWholeLine bytes = (0 < length bytes) × (slice_index bytes (length bytes - 1) ≡ 10) × NoFeed bytes (length bytes - 1)

-- bytes are lines: each but the last is one with its end, and that one has it or no line feed at all
abbrev pub AreLines : List (List ℕ) → Type 0
AreLines [] = ⊤
AreLines (line ∷ []) = IsWholeLine line ⊎ NoFeed line (length line)
AreLines (line ∷ next ∷ lines) = IsWholeLine line × AreLines (next ∷ lines)

-- the next bytes of a reader are a line with its end; or they are the last, all that it gave, with no line feed
abbrev pub IsNext : Bool → List ℕ → Type 0
IsNext false bytes = IsWholeLine bytes
IsNext true bytes = NoFeed bytes (length bytes)

-- what a reader gave went to the end of what was not taken yet
abbrev pub ComesBehind : {R : Type 0} → Known R → Counted R → Counted R → Input → Input → Type 0
ComesBehind remaining reader new_reader input new_input =
    (more : List ℕ) × (unread new_input ≡ unread input ++ more) × Consumes (bytes_known remaining reader) (bytes_known remaining new_reader) more

-- no line could be read: the reader failed, or memory was refused, or more reads than can be counted
abbrev pub IsReadFault : FaultKind → ℕ → ℕ → Type 0
IsReadFault Read failures new_failures = Rises failures new_failures
IsReadFault Write failures new_failures = ⊥
IsReadFault kind failures new_failures = ⊤

-- these lines are all that a reader gave, to its end
pub record AreRead {R : Type 0} (remaining : Known R) (reader new_reader : Counted R) (lines : List (List ℕ)) : Type 0 where
  pub each : AreLines lines
  pub all : Consumes (bytes_known remaining reader) (bytes_known remaining new_reader) (all_of lines)
  pub ended : IsAtEnd (bytes_known remaining new_reader)

-- lines with their ends are the first of what a reader gave
pub record AreFirst {R : Type 0} (remaining : Known R) (reader new_reader : Counted R) (lines : List (List ℕ)) : Type 0 where
  pub each : AllByRecursion IsWholeLine lines
  pub rest : List ℕ
  pub all : Consumes (bytes_known remaining reader) (bytes_known remaining new_reader) (all_of lines ++ rest)

-- lines with their ends, and what was not taken yet, are all that a reader gave so far
pub record AreTaken {R : Type 0} (remaining : Known R) (reader new_reader : Counted R) (input : Input) (lines : List (List ℕ)) : Type 0 where
  pub each : AllByRecursion IsWholeLine lines
  pub all : Consumes (bytes_known remaining reader) (bytes_known remaining new_reader) (all_of lines ++ unread input)
