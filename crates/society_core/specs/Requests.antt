-- What is asked and what is answered, without where its bytes lie in memory.
use Rattle.std.specs.Prelude.{ℕ, List, Option, Result, Ok, Err}
use Rattle.pool_split.specs.declared.claim.Credit.{Credit}
use Rattle.share_rules.specs.declared.holder.Holder.{Holder}
use Rattle.work_ids.specs.SegmentEnds.{StatedEnd}
use Rattle.work_ids.specs.declared.account.Account.{Account}
use Rattle.society_core.specs.Orders.{Order}
use Rattle.society_core.specs.declared.answers.Answer.{Answer}
use Rattle.society_core.specs.declared.answers.Answer.TheVariants as answers
use Rattle.society_core.specs.declared.answers.Arrival.{Arrival}
use Rattle.society_core.specs.declared.answers.Receipt.{Receipt}
use Rattle.society_core.specs.declared.answers.SenderStatus.{SenderStatus}
use Rattle.society_core.specs.declared.answers.Work.{Work}
use Rattle.society_core.specs.declared.end_fault.EndFault.{EndFault}
use Rattle.society_core.specs.declared.inquiry.Inquiry.{Inquiry}
use Rattle.society_core.specs.declared.inquiry.Showing as declared
use Rattle.society_core.specs.declared.inquiry.Showing.TheVariants as showings
use Rattle.society_core.specs.declared.order_fault.OrderFault.{OrderFault}
use Rattle.society_core.specs.declared.refusal.Refusal.{Refusal}
use Rattle.society_core.specs.declared.request.Request.{Request}
use Rattle.society_core.specs.declared.request.Request.TheVariants as requests
use Rattle.society_core.specs.declared.return_key.ReturnKey.{ReturnKey}
use Rattle.works_core.specs.declared.verdict.Verdict.{Verdict}
use Rattle.works_core.specs.declared.version.WorkVersion.{WorkVersion}

-- what is asked
pub data Query : Type 0 where
  Puts : List ℕ → ℕ → List ℕ → Query
  States : List ℕ → StatedEnd → Query
  StatesFaulty : EndFault → Query
  PutsReturn : ReturnKey → List ℕ → Query
  Closes : ℕ → Order → Query
  ClosesFaulty : OrderFault → Query
  Inquires : Inquiry → Query
  AsksElsewhere : Query

-- what is shown of a work: its number, which version it is, and what the version's transaction says
pub record Shown : Type 0 where
  pub number : List ℕ
  pub version : WorkVersion
  pub title : List ℕ
  pub iswc : Option (List ℕ)
  pub isrcs : List (List ℕ)
  pub holders : List Holder

-- what is shown to a question: the text of an acknowledgement, how a sender stands, a work, verdicts, credits, or the units of an account
pub data Showing : Type 0 where
  Acknowledged : List ℕ → Showing
  Stands : ℕ → List ℕ → Showing
  Described : Shown → Showing
  Judged : List Verdict → Showing
  Credited : List Credit → Showing
  Owed : Account → ℕ → Showing

-- what is answered
pub data Reply : Type 0 where
  Arrived : Arrival → Reply
  Ended : Receipt → ℕ → Reply
  Stored : Receipt → Reply
  Closed : Receipt → ℕ → Reply
  Showed : Showing → Reply
  Refused : Refusal → Reply

-- what a request asks
abbrev pub query_of : Request → Query
query_of (requests.PutTransmission sender number body) = Puts sender number body.now
query_of (requests.PutEnd sender end) = States sender end
query_of (requests.FaultyEnd fault) = StatesFaulty fault
query_of (requests.PutReturn key body) = PutsReturn key body.now
query_of (requests.ClosePool pool order) = Closes pool order
query_of (requests.FaultyOrder fault) = ClosesFaulty fault
query_of (requests.Show inquiry) = Inquires inquiry
query_of requests.Elsewhere = AsksElsewhere

-- how a sender stands: its front, and the numbers that are held
abbrev pub standing_of : SenderStatus → Showing
standing_of status = Stands status.front status.held.items

-- what a work says
abbrev pub shown_of : Work → Shown
shown_of work = record {
  number = work.number;
  version = work.version;
  title = work.title.items;
  iswc = work.iswc;
  isrcs = work.isrcs.items;
  holders = work.holders.items;
}

-- what is shown, as the book has it
abbrev pub showing_of : declared.Showing → Showing
showing_of (showings.Acknowledgement text) = Acknowledged text.items
showing_of (showings.Sender status) = standing_of status
showing_of (showings.Work work) = Described (shown_of work)
showing_of (showings.Verdicts verdicts) = Judged verdicts.items
showing_of (showings.Credits credits) = Credited credits.items
showing_of (showings.Balance account units) = Owed account units

-- what an answer says
abbrev pub reply_of : Answer → Reply
reply_of (answers.Arrived arrival) = Arrived arrival
reply_of (answers.Ended receipt front) = Ended receipt front
reply_of (answers.Stored receipt) = Stored receipt
reply_of (answers.Closed receipt pool) = Closed receipt pool
reply_of (answers.Showed showing) = Showed (showing_of showing)
reply_of (answers.Refused refusal) = Refused refusal

-- the reply that a call's result stands for
abbrev pub told : {X : Type 0} → (X → Reply) → Result X Refusal → Reply
told shown (Ok x) = shown x
told shown (Err refusal) = Refused refusal

-- the reply to a question: what a call's result shows, or the refusal
abbrev pub shown_to : {X : Type 0} → (X → Showing) → Result X Refusal → Reply
shown_to showing result = told (λ x. Showed (showing x)) result
