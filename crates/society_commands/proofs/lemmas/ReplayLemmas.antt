-- What a connection comes to, at an office to which nothing has come.
use Rattle.std.proofs.Common.{◌≡◌, ℕ, IsTrue, List, Option, subst}
use Rattle.http_desk.specs.Counted.{inner_of}
use Rattle.http_text.specs.Part.{Part}
use Rattle.http_text.specs.Reads.{ReadsAsRequests}
use Rattle.http_desk.specs.Serves.{AreAnswered, Breaks, CausedBy, Serves, Written, queries_of}
use Rattle.http_desk.specs.declared.counted.Counted.{Counted}
use Rattle.http_desk.specs.declared.fault.DeskFault.{DeskFault}
use Rattle.share_rules.specs.declared.office.Office.{Office}
use Rattle.society_core.specs.Book.{Book, empty_book}
use Rattle.society_core.specs.Headline.{OneContent, HoldsWhatCame}
use Rattle.society_core.specs.Requests.{Reply}
use Rattle.society_core.specs.Runs.{Run}
use Rattle.society_core.specs.State.{State}
use Rattle.society_commands.specs.Replays.{AnswersFromNothing, Replays, BreaksOff}
use Rattle.society_commands.specs.declared.trouble.Trouble.{Trouble}
use Rattle.society_commands.specs.declared.trouble.Trouble.TheVariants.{Stream}
use Rattle.desk_connections.specs.Faults.{most_turns}

-- the answers are a run from the empty book on
pub from_nothing : {S : Type 0} (state : S → State) (office : Office) (desk new_desk : S) (parts : List Part) (replies : List Reply) → (state desk).office ≡ office → (state desk).book ≡ empty_book
    → IsTrue (state new_desk).is_clean → AreAnswered state parts replies desk new_desk → AnswersFromNothing office parts replies
from_nothing state office desk new_desk parts replies same empty clean answers = record {
  after = (state new_desk).book;
  each = answers.each;
  run =
      subst (λ (o : Office). Run o empty_book (queries_of o parts) replies (state new_desk).book) same
      (subst (λ (b : Book). Run (state desk).office b (queries_of (state desk).office parts) replies (state new_desk).book) empty (answers.run clean));
  came =
      subst (λ (o : Office). OneContent empty_book (queries_of o parts) replies → HoldsWhatCame empty_book (queries_of o parts) replies (state new_desk).book) same
      (subst (λ (b : Book). OneContent b (queries_of (state desk).office parts) replies → HoldsWhatCame b (queries_of (state desk).office parts) replies (state new_desk).book) empty (answers.came clean));
}

module _ {S R W : Type 0} (desk new_desk : S) (state : S → State) (office : Office) (remaining : R → Option (List ℕ)) (contents : W → Option (List ℕ)) (reader new_reader : Counted R) (out new_out : Counted W)
    (same : (state desk).office ≡ office) (empty : (state desk).book ≡ empty_book) (clean : IsTrue (state new_desk).is_clean) where
  pub replays_from : (requests : ℕ) → Serves state (remaining (inner_of reader)) desk new_desk (contents (inner_of out)) (contents (inner_of new_out)) requests
      → Replays office remaining contents reader out new_out
  replays_from requests s = record {
    bytes = s.bytes;
    given = s.given;
    parts = s.parts;
    replies = s.replies;
    end = s.end;
    reads = subst (λ (o : Office). ReadsAsRequests o.society s.bytes s.parts s.end) same s.reads;
    answers = from_nothing state office desk new_desk s.parts s.replies same empty clean s.answers;
    written = s.written;
  }

  pub breaks_off_from : (fault : DeskFault) (Told : Trouble → Type 0) → Breaks state fault (remaining (inner_of reader)) desk new_desk (contents (inner_of out)) (contents (inner_of new_out))
      → CausedBy fault.kind fault.requests most_turns remaining reader new_reader out new_out → Told (Stream fault)
      → BreaksOff office remaining contents reader new_reader out new_out Told
  breaks_off_from fault Told b cause told = record {
    fault = fault;
    bytes = b.bytes;
    given = b.given;
    parts = b.parts;
    replies = b.replies;
    answers = from_nothing state office desk new_desk b.parts b.replies same empty clean b.answers;
    written = subst (λ (o : Office). Written o.society fault.kind b.bytes b.parts b.replies (contents (inner_of out)) (contents (inner_of new_out))) same b.written;
    count = b.count;
    cause = cause;
    told = told;
  }
