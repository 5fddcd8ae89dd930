-- What a connection comes to: the requests that were read, their answers, the book after them, and why it was given up.
use Rattle.std.specs.Prelude.{◌≡◌, ◌⊎◌, ℕ, ◌+◌, ◌*◌, ◌≤◌, IsTrue, IfSome, List, [], ◌∷◌, ◌++◌, length, map, Option}
use Rattle.std.specs.Io.KnownBytes.{Appends, Consumes}
use Rattle.std.specs.List.{flat_map, AllByRecursion}
use Rattle.share_rules.specs.declared.office.Office.{Office}
use Rattle.society_core.specs.Book.{Book}
use Rattle.society_core.specs.Entries.{Entry, IsAccepted, IsIn}
use Rattle.society_core.specs.Headline.{OneContent, HoldsWhatCame}
use Rattle.society_core.specs.Requests.{Query, Reply}
use Rattle.society_core.specs.Runs.{Calls, Run}
use Rattle.society_core.specs.State.{State, Rises, StaysClean}
use Rattle.http_desk.specs.declared.connection.Served.{Served}
use Rattle.http_text.specs.declared.connection_end.End.{End}
use Rattle.http_desk.specs.declared.counted.Counted.{Counted}
use Rattle.http_desk.specs.declared.fault.DeskFault.{DeskFault}
use Rattle.http_desk.specs.declared.fault.FaultKind.{FaultKind}
use Rattle.http_desk.specs.declared.fault.FaultKind.TheVariants.{Read, Write, Turns, Memory}
use Rattle.http_desk.specs.Counted.{AppendsFront, TakesAtLeast, Known, TakesAtMost, counted_on, empty_reads_of, failures_of, bytes_known, reads_of}
use Rattle.http_desk.specs.Input.{BeforeEach, IsPiece, all_of}
use Rattle.http_text.specs.Part.{Part, print_part, IsOpenPart}
use Rattle.http_text.specs.Path.{request_of}
use Rattle.http_text.specs.Reads.{Awaits, ReadsAsRequests, Cuts, HasNoPart}
use Rattle.http_text.specs.Text.{texts, ending}
use Rattle.http_desk.specs.Upcoming.{HasPart}
use Rattle.http_desk.specs.declared.head.Head.{Head}

-- a request of a connection was answered so
abbrev pub Steps : {S : Type 0} → (S → State) → S → S → Part → Reply → Type 0
Steps state desk new_desk part reply = Calls state desk new_desk (request_of (state desk).office.society part) reply

-- what the requests of a connection ask of an office
abbrev pub queries_of : Office → List Part → List Query
queries_of office parts = map (request_of office.society) parts

-- the request at the front of the bytes, of whose head this is kept, was answered by such a call
abbrev pub IsAnswered : {S : Type 0} → (S → State) → S → S → List ℕ → Head → Reply → Type 0
IsAnswered state desk new_desk bytes head reply = (has : HasPart bytes head) → Steps state desk new_desk has.part reply

-- the requests were answered in turn: each by a call that began where the one before had left the store
abbrev pub Answered : {S : Type 0} → (S → State) → List Query → List Reply → S → S → Type 0
Answered state [] [] desk new_desk = new_desk ≡ desk
Answered {S} state (query ∷ queries) (reply ∷ replies) desk new_desk =
    (middle : S) × Calls state desk middle query reply × Answered state queries replies middle new_desk
Answered state [] (reply ∷ replies) desk new_desk = ⊥
Answered state (query ∷ queries) [] desk new_desk = ⊥

-- over a medium that told the truth, what was accepted of these requests stands in each book that a crash leaves, whatever befell the store since
abbrev pub AcceptedLasts : State → List Query → List Reply → Type 0
AcceptedLasts new queries replies =
    IsTrue new.is_honest → (entry : Entry) → IsAccepted queries replies entry → (book : Book) → new.left book → IsIn book entry

-- The requests of a connection were answered in turn; from that follows what is told of the book where the store is clean at the end.
-- A store that was clean before the first of them is clean behind the last, and so behind each, as long as its medium told the truth and
-- the count of its faults did not rise: then all that is promised of a clean store holds of every call.
pub record AreAnswered {S : Type 0} (state : S → State) (parts : List Part) (replies : List Reply) (desk new_desk : S) : Type 0 where
  pub each : length replies ≡ length parts
  pub office : (state new_desk).office ≡ (state desk).office
  pub steps : Answered state (queries_of (state desk).office parts) replies desk new_desk
  pub stays : StaysClean (state desk) (state new_desk)
  pub run : IsTrue (state new_desk).is_clean → Run (state desk).office (state desk).book (queries_of (state desk).office parts) replies (state new_desk).book
  pub came : IsTrue (state new_desk).is_clean → OneContent (state desk).book (queries_of (state desk).office parts) replies
      → HoldsWhatCame (state desk).book (queries_of (state desk).office parts) replies (state new_desk).book
  pub lasts : AcceptedLasts (state new_desk) (queries_of (state desk).office parts) replies

-- First these requests were answered and then more, with a store in between. Where that one is clean, the first are a run from the
-- opening book, its book holds what came, and whatever befell the store later, its entries stand in the later book where the store is
-- still clean, and in each book that a crash may leave where the medium told the truth.
pub record AnsweredThrough {S : Type 0} (state : S → State) (queries more : List Query) (replies : List Reply) (desk new_desk : S) : Type 0 where
  pub middle : S
  pub first : List Reply
  pub later : List Reply
  pub whole : replies ≡ first ++ later
  pub before : Answered state queries first desk middle
  pub after : Answered state more later middle new_desk
  pub run : IsTrue (state middle).is_clean → Run (state desk).office (state desk).book queries first (state middle).book
  pub came : IsTrue (state middle).is_clean → OneContent (state desk).book queries first → HoldsWhatCame (state desk).book queries first (state middle).book
  pub stays : IsTrue (state middle).is_clean → IsTrue (state new_desk).is_clean → (entry : Entry) → IsIn (state middle).book entry → IsIn (state new_desk).book entry
  pub left : IsTrue (state middle).is_clean → IsTrue (state new_desk).is_honest → (book : Book) → (state new_desk).left book
      → (entry : Entry) → IsIn (state middle).book entry → IsIn book entry

-- what was answered while the store was clean stays, whatever requests come behind it
abbrev pub AnswersStay : {S : Type 0} → (S → State) → Type 0
AnswersStay {S} state =
    (queries more : List Query) (replies : List Reply) (desk new_desk : S) → Answered state (queries ++ more) replies desk new_desk → AnsweredThrough state queries more replies desk new_desk

-- all bytes were read as requests, and what was written is their answers and then the text of the end, and nothing else; where the reader's bytes are known they are those
pub record Serves {S : Type 0} (state : S → State) (known : Option (List ℕ)) (desk new_desk : S) (holds new_holds : Option (List ℕ)) (requests : ℕ) : Type 0 where
  pub bytes : List ℕ
  pub given : IfSome known (λ all. all ≡ bytes)
  pub parts : List Part
  pub replies : List Reply
  pub end : End
  pub reads : ReadsAsRequests (state desk).office.society bytes parts end
  pub answers : AreAnswered state parts replies desk new_desk
  pub written : Appends holds new_holds (texts parts replies ++ ending end)
  pub count : requests ≡ length parts

-- the bytes begin with these requests, and what was written is their answers
abbrev pub Stopped : List ℕ → List Part → List Reply → Option (List ℕ) → Option (List ℕ) → Type 0
Stopped bytes parts replies holds new_holds =
    (rest : List ℕ) × Cuts bytes parts rest × Appends holds new_holds (texts parts replies)

-- what was written is a front of the answers to these requests, with which the bytes begin
abbrev pub UnwrittenAnswers : List ℕ → List Part → List Reply → Option (List ℕ) → Option (List ℕ) → Type 0
UnwrittenAnswers bytes parts replies holds new_holds =
    (rest : List ℕ) × Cuts bytes parts rest × AppendsFront holds new_holds (texts parts replies)

-- the bytes are these requests with an end, and what was written is a front of the answers and the text of the end
abbrev pub UnwrittenEnd : ℕ → List ℕ → List Part → List Reply → Option (List ℕ) → Option (List ℕ) → Type 0
UnwrittenEnd society bytes parts replies holds new_holds =
    (end : End) × ReadsAsRequests society bytes parts end × AppendsFront holds new_holds (texts parts replies ++ ending end)

-- not all that was due was written: answers, or, where these are all, what is due at the end
abbrev pub Unwritten : ℕ → List ℕ → List Part → List Reply → Option (List ℕ) → Option (List ℕ) → Type 0
Unwritten society bytes parts replies holds new_holds =
    UnwrittenAnswers bytes parts replies holds new_holds ⊎ UnwrittenEnd society bytes parts replies holds new_holds

-- what was read and written before a fault at the office of a society
abbrev pub Written : ℕ → FaultKind → List ℕ → List Part → List Reply → Option (List ℕ) → Option (List ℕ) → Type 0
Written society Read = Stopped
Written society Turns = Stopped
Written society Memory = Stopped
Written society Write = Unwritten society

-- up to a fault these requests were read and answered, as far as the answers could be written
pub record Breaks {S : Type 0} (state : S → State) (fault : DeskFault) (known : Option (List ℕ)) (desk new_desk : S) (holds new_holds : Option (List ℕ)) : Type 0 where
  pub bytes : List ℕ
  pub given : IfSome known (λ all. all ≡ bytes)
  pub parts : List Part
  pub replies : List Reply
  pub answers : AreAnswered state parts replies desk new_desk
  pub written : Written (state desk).office.society fault.kind bytes parts replies holds new_holds
  pub count : fault.requests ≡ length parts

-- a further read was needed: what was read is the requests that were answered, and behind them nothing that is whole, refused or too large
pub record NeedsMore (known new_known : Option (List ℕ)) (requests : ℕ) : Type 0 where
  pub parts : List Part
  pub rest : List ℕ
  pub each : AllByRecursion IsOpenPart parts
  pub consumed : Consumes known new_known (flat_map print_part parts ++ rest)
  pub none : HasNoPart rest
  pub awaits : Awaits rest
  pub count : requests ≡ length parts

-- the same of a reader
abbrev pub NeedsRead : {R : Type 0} → Known R → Counted R → Counted R → ℕ → Type 0
NeedsRead remaining reader new_reader requests = NeedsMore (bytes_known remaining reader) (bytes_known remaining new_reader) requests

-- it failed in between
abbrev pub Fails : {T : Type 0} → Counted T → Counted T → Type 0
Fails counted new_counted = Rises (failures_of counted) (failures_of new_counted)

-- why a connection was given up: a needed read failed; the writer did; as many reads as turns gave bytes and one more was needed; or memory was refused before anything else
abbrev pub CausedBy : {R W : Type 0} → FaultKind → ℕ → ℕ → Known R → Counted R → Counted R → Counted W → Counted W → Type 0
CausedBy Read requests turns remaining reader new_reader writer new_writer =
    Fails reader new_reader × NeedsRead remaining reader new_reader requests
CausedBy Write requests turns remaining reader new_reader writer new_writer =
    Fails writer new_writer
CausedBy Turns requests turns remaining reader new_reader writer new_writer =
    (reads_of new_reader ≡ counted_on (reads_of reader) turns)
    × TakesAtLeast (bytes_known remaining reader) (bytes_known remaining new_reader) turns
    × NeedsRead remaining reader new_reader requests
CausedBy Memory requests turns remaining reader new_reader writer new_writer =
    (requests ≡ 0) × (new_reader ≡ reader) × (new_writer ≡ writer)

-- what had come was requests after each of which the connection goes on, and behind them bytes of which more were awaited
abbrev pub IsAwaiting : List ℕ → Type 0
IsAwaiting bytes = (parts : List Part) × (rest : List ℕ) × Cuts bytes parts rest × Awaits rest

-- At most as many reads as turns gave bytes, each at most 16,384 of them (profile). Each of these was needed: before it nothing that is
-- whole, refused or too large stood behind the requests that had come. At most one further read gave none.
pub record KeepsTurns {R : Type 0} (remaining : Known R) (reader new_reader : Counted R) (turns : ℕ) : Type 0 where
  pub pieces : List (List ℕ)
  pub consumed : Consumes (bytes_known remaining reader) (bytes_known remaining new_reader) (all_of pieces)
  pub each : AllByRecursion IsPiece pieces
  pub needed : BeforeEach IsAwaiting [] pieces
  pub counts : reads_of new_reader ≡ counted_on (reads_of reader) (length pieces)
  pub within : length pieces ≤ turns
  pub ends : empty_reads_of new_reader ≤ empty_reads_of reader + 1
  pub reads : reads_of new_reader ≤ reads_of reader + turns
  pub most : TakesAtMost (bytes_known remaining reader) (bytes_known remaining new_reader) (turns * 16384)

-- all these bytes were written, and so many requests are told
abbrev pub ClosesBy : {W : Type 0} → Known W → Counted W → Counted W → ℕ → List ℕ → Served → Type 0
ClosesBy contents writer new_writer requests bytes served =
    (served.requests ≡ requests) × Appends (bytes_known contents writer) (bytes_known contents new_writer) bytes

-- the writer failed at a front of these bytes, after so many requests
abbrev pub FailsToClose : {W : Type 0} → Known W → Counted W → Counted W → ℕ → List ℕ → DeskFault → Type 0
FailsToClose contents writer new_writer requests bytes fault =
    (fault ≡ record { kind = Write; requests = requests })
    × AppendsFront (bytes_known contents writer) (bytes_known contents new_writer) bytes
    × Fails writer new_writer

-- neither the reader nor the writer failed
abbrev pub NeitherFails : {R W : Type 0} → Counted R → Counted R → Counted W → Counted W → Type 0
NeitherFails reader new_reader writer new_writer =
    (failures_of new_reader ≡ failures_of reader) × (failures_of new_writer ≡ failures_of writer)

-- a desk served a connection to its end
abbrev pub IsServed : {S R W : Type 0} → (S → State) → Known R → Known W → S → S → Counted R → Counted W → Counted W → Served → Type 0
IsServed state remaining contents desk new_desk reader writer new_writer served =
    Serves state (bytes_known remaining reader) desk new_desk (bytes_known contents writer) (bytes_known contents new_writer) served.requests

-- a desk gave a connection up: what came before, and why
pub record IsGivenUp {S R W : Type 0} (state : S → State) (remaining : Known R) (contents : Known W) (desk new_desk : S) (reader new_reader : Counted R) (writer new_writer : Counted W) (turns : ℕ) (fault : DeskFault) : Type 0 where
  pub breaks : Breaks state fault (bytes_known remaining reader) desk new_desk (bytes_known contents writer) (bytes_known contents new_writer)
  pub cause : CausedBy fault.kind fault.requests turns remaining reader new_reader writer new_writer
