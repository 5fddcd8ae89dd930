-- What is written where a stream of bytes is served at an office to which nothing has come, and why a stream breaks off.
use Rattle.std.specs.Prelude.{◌≡◌, ℕ, IfSome, List, ◌++◌, length, Option}
use Rattle.std.specs.Io.KnownBytes.{Appends}
use Rattle.http_desk.specs.Counted.{inner_of}
use Rattle.http_text.specs.Part.{Part}
use Rattle.http_text.specs.Reads.{ReadsAsRequests}
use Rattle.http_desk.specs.Serves.{CausedBy, Written, queries_of}
use Rattle.http_text.specs.Text.{texts, ending}
use Rattle.http_text.specs.declared.connection_end.End.{End}
use Rattle.http_desk.specs.declared.counted.Counted.{Counted}
use Rattle.http_desk.specs.declared.fault.DeskFault.{DeskFault}
use Rattle.share_rules.specs.declared.office.Office.{Office}
use Rattle.desk_connections.specs.Faults.{most_turns}
use Rattle.society_core.specs.Book.{Book, empty_book}
use Rattle.society_core.specs.Headline.{OneContent, HoldsWhatCame}
use Rattle.society_core.specs.Requests.{Reply}
use Rattle.society_core.specs.Runs.{Run}
use Rattle.society_commands.specs.declared.trouble.Trouble.{Trouble}
use Rattle.society_commands.specs.declared.trouble.Trouble.TheVariants.{Stream}

-- the requests were answered in turn from the empty book on; the book after them holds what came
pub record AnswersFromNothing (office : Office) (parts : List Part) (replies : List Reply) : Type 0 where
  pub after : Book
  pub each : length replies ≡ length parts
  pub run : Run office empty_book (queries_of office parts) replies after
  pub came : OneContent empty_book (queries_of office parts) replies → HoldsWhatCame empty_book (queries_of office parts) replies after

-- the bytes are requests and an end; what is written are the texts of their answers from the empty book on, in order, then that of the end, and nothing else; where the reader's bytes are known they are those
pub record Replays {R W : Type 0} (office : Office) (remaining : R → Option (List ℕ)) (contents : W → Option (List ℕ)) (reader : Counted R) (out new_out : Counted W) : Type 0 where
  pub bytes : List ℕ
  pub given : IfSome (remaining (inner_of reader)) (λ all. all ≡ bytes)
  pub parts : List Part
  pub replies : List Reply
  pub end : End
  pub reads : ReadsAsRequests office.society bytes parts end
  pub answers : AnswersFromNothing office parts replies
  pub written : Appends (contents (inner_of out)) (contents (inner_of new_out)) (texts parts replies ++ ending end)

-- up to a fault, which has its cause and is told, the bytes began with requests; what is written are their answers from the empty book on, as far as they could be written
pub record BreaksOff {R W : Type 0} (office : Office) (remaining : R → Option (List ℕ)) (contents : W → Option (List ℕ)) (reader new_reader : Counted R) (out new_out : Counted W) (Told : Trouble → Type 0) : Type 0 where
  pub fault : DeskFault
  pub bytes : List ℕ
  pub given : IfSome (remaining (inner_of reader)) (λ all. all ≡ bytes)
  pub parts : List Part
  pub replies : List Reply
  pub answers : AnswersFromNothing office parts replies
  pub written : Written office.society fault.kind bytes parts replies (contents (inner_of out)) (contents (inner_of new_out))
  pub count : fault.requests ≡ length parts
  pub cause : CausedBy fault.kind fault.requests most_turns remaining reader new_reader out new_out
  pub told : Told (Stream fault)
