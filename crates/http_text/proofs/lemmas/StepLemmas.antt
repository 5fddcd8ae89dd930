-- Lemmas on steps: a reply that shows something is to a question, which leaves the book as it was; and calls that leave the store untouched.
use Rattle.std.proofs.Common.{◌≡◌, ◌≢◌, ℕ, true, false, List, Option, Some, None, inl, inr, refl, sym, ◌∙◌, ap, arith, subst}
use Rattle.cwr_files.specs.Fed.{WasFed}
use Rattle.cwr_files.specs.FileFault.{file_fault}
use Rattle.cwr_files.specs.declared.fault.FileFault.{FileFault}
use Rattle.perf_returns.specs.Returns.{return_fault}
use Rattle.perf_returns.specs.declared.fault.ReturnFault.{ReturnFault}
use Rattle.share_rules.specs.declared.office.Office.{Office}
use Rattle.sender_segments.specs.Ways.{End, end_stated}
use Rattle.society_core.specs.Answers.{added_answer, added_book, answer, close_answer, close_book, close_refusal, closed_answer, closed_book, known_as, next, pool_known_as, end_answer, end_book, put_answer, put_book, return_answer, return_book, return_known_as, stated_answer, stated_book, stating_answer, stating_book, stored_answer, stored_book, taken_answer, taken_book}
use Rattle.society_core.specs.Book.{Book}
use Rattle.society_core.specs.Ends.{end_known_as, ended_before, fault_stated, number_past, place_stated}
use Rattle.society_core.specs.Orders.{Order}
use Rattle.society_core.specs.Requests.{Query, Puts, States, StatesFaulty, PutsReturn, Closes, ClosesFaulty, Inquires, AsksElsewhere, Reply, Refused}
use Rattle.society_core.specs.Runs.{Calls, IsHonest, Proceeds, Step, asks_store}
use Rattle.society_core.specs.State.{Goes, State}
use Rattle.society_core.specs.declared.refusal.Refusal.{Refusal}
use Rattle.society_core.specs.declared.refusal.Refusal.TheVariants.{Unknown}
use Rattle.society_core.specs.declared.return_key.ReturnKey.{ReturnKey}
use Rattle.society_core.specs.declared.store.Known.{Known}
use Rattle.society_core.specs.declared.store.Known.TheVariants.{Absent, Same, Other}
use Rattle.work_ids.specs.SegmentEnds.{StatedEnd}
use Rattle.work_ids.specs.declared.segment_end.SegmentFault.{SegmentFault}
use Rattle.http_text.specs.Told.{IsShown, TellsReply}
use Rattle.http_text.specs.Wanted.{StandsFor}
use Rattle.http_text.specs.declared.asked.Asked.{Asked}
use Rattle.http_text.specs.declared.asked.Asked.TheVariants as asked_so
use Rattle.http_text.specs.declared.fed_put.FedPut.{FedPut}

taken_stays : (book : Book) (sender : List ℕ) (number : ℕ) (body : List ℕ) (ended : Option ℕ)
    → IsShown (taken_answer book sender number body ended) → taken_book book sender number body ended ≡ book
taken_stays book sender number body (Some last) shown = refl
taken_stays book sender number body None shown = absurd shown

added_stays : (book : Book) (sender : List ℕ) (number : ℕ) (body : List ℕ) (fault : Option FileFault)
    → IsShown (added_answer book sender number body fault) → added_book book sender number body fault ≡ book
added_stays book sender number body (Some fault) shown = refl
added_stays book sender number body None shown = taken_stays book sender number body (ended_before book sender number) shown

put_stays : (book : Book) (sender : List ℕ) (number : ℕ) (body : List ℕ) (known : Known)
    → IsShown (put_answer book sender number body known) → put_book book sender number body known ≡ book
put_stays book sender number body Same shown = refl
put_stays book sender number body Other shown = refl
put_stays book sender number body Absent shown = added_stays book sender number body (file_fault sender body) shown

stated_stays : (book : Book) (sender : List ℕ) (segment : ℕ) (end : End) (past : Option ℕ)
    → IsShown (stated_answer book sender segment end past) → stated_book book sender segment end past ≡ book
stated_stays book sender segment end (Some number) shown = refl
stated_stays book sender segment end None shown = absurd shown

end_stays : (book : Book) (sender : List ℕ) (segment : ℕ) (end : End) (known : Known)
    → IsShown (end_answer book sender segment end known) → end_book book sender segment end known ≡ book
end_stays book sender segment end Same shown = refl
end_stays book sender segment end Other shown = refl
end_stays book sender segment end Absent shown = stated_stays book sender segment end (number_past book sender segment end.last) shown

stating_stays : (book : Book) (sender : List ℕ) (stated : StatedEnd) (fault : Option SegmentFault)
    → IsShown (stating_answer book sender stated fault) → stating_book book sender stated fault ≡ book
stating_stays book sender stated (Some fault) shown = refl
stating_stays book sender stated None shown =
    end_stays book sender (place_stated stated) (end_stated stated) (end_known_as book sender (place_stated stated) (end_stated stated)) shown

stored_stays : (book : Book) (key : ReturnKey) (body : List ℕ) (fault : Option ReturnFault)
    → IsShown (stored_answer fault) → stored_book book key body fault ≡ book
stored_stays book key body (Some fault) shown = refl
stored_stays book key body None shown = absurd shown

return_stays : (book : Book) (key : ReturnKey) (body : List ℕ) (known : Known)
    → IsShown (return_answer body known) → return_book book key body known ≡ book
return_stays book key body Same shown = refl
return_stays book key body Other shown = refl
return_stays book key body Absent shown = stored_stays book key body (return_fault body) shown

closed_stays : (book : Book) (pool : ℕ) (order : Order) (refusal : Option Refusal)
    → IsShown (closed_answer pool refusal) → closed_book book pool order refusal ≡ book
closed_stays book pool order (Some refusal) shown = refl
closed_stays book pool order None shown = absurd shown

close_stays : (book : Book) (pool : ℕ) (order : Order) (known : Known)
    → IsShown (close_answer book pool order known) → close_book book pool order known ≡ book
close_stays book pool order Same shown = refl
close_stays book pool order Other shown = refl
close_stays book pool order Absent shown = closed_stays book pool order (close_refusal book order) shown

-- a reply that shows something leaves the book as it was
pub shown_stays : (office : Office) (book : Book) (query : Query) → IsShown (answer office book query) → next book query ≡ book
shown_stays office book (Puts sender number body) shown = put_stays book sender number body (known_as book sender number body) shown
shown_stays office book (States sender stated) shown = stating_stays book sender stated (fault_stated stated) shown
shown_stays office book (StatesFaulty fault) shown = refl
shown_stays office book (PutsReturn key body) shown = return_stays book key body (return_known_as book key body) shown
shown_stays office book (Closes pool order) shown = close_stays book pool order (pool_known_as book pool order) shown
shown_stays office book (ClosesFaulty fault) shown = refl
shown_stays office book (Inquires inquiry) shown = refl
shown_stays office book AsksElsewhere shown = refl

-- what is told of a step's reply is a step's reply
tells_step : (office : Office) (book : Book) (query : Query) (reply told : Reply) (after : Book)
    → TellsReply reply told → Step office book query reply after → Step office book query told after
tells_step office book query reply told after (inl same) step = subst (λ (r : Reply). Step office book query r after) (sym same) step
tells_step office book query reply told after (inr (shown, busy)) (inl (is, gone)) =
    inr (busy, gone ∙ shown_stays office book query (subst IsShown is shown))
tells_step office book query reply told after (inr (shown, busy)) (inr (is, stays)) = inr (busy, stays)

-- and what is told of the truth is the truth, or that the office is unavailable
tells_truth : (old new : State) (query : Query) (reply told : Reply) → TellsReply reply told → IsHonest old new query reply → IsHonest old new query told
tells_truth old new query reply told (inl same) honest = subst (λ (r : Reply). IsHonest old new query r) (sym same) honest
tells_truth old new query reply told (inr (shown, busy)) honest = λ is. inl busy

proceeds_told : (old new : State) (query : Query) (reply told : Reply) → TellsReply reply told → Proceeds old new query reply → Proceeds old new query told
proceeds_told old new query reply told tells call = record {
  step = λ clean. tells_step old.office old.book query reply told new.book tells (call.step clean);
  goes = call.goes;
  told = λ asks. tells_truth old new query reply told tells (call.told asks);
}

-- a refusal is told as it is
tells_refused : (reply told : Reply) (refusal : Refusal) → TellsReply reply told → reply ≡ Refused refusal → told ≡ Refused refusal
tells_refused reply told refusal (inl same) is = same ∙ is
tells_refused reply told refusal (inr (shown, busy)) is = absurd (subst IsShown is shown)

-- what is told of a call's reply is a call's reply
pub tells_call : {S : Type 0} (state : S → State) (desk new_desk : S) (query : Query) (reply told : Reply)
    → TellsReply reply told → Calls state desk new_desk query reply → Calls state desk new_desk query told
tells_call state desk new_desk query reply told tells call = record {
  proceeds = proceeds_told (state desk) (state new_desk) query reply told tells call.proceeds;
  untouched = call.untouched;
  unknown = λ e. tells_refused reply told Unknown tells (call.unknown e);
}

-- ---- requests that leave the store as it is

stays : (store : State) (query : Query) → Goes store store (λ book. book ≡ next store.book query)
stays store query = record {
  office = refl;
  clean = λ is. is;
  honest = λ is. is;
  failures = omega arith;
  faults = omega arith;
  stays = λ honest clean. inl clean;
  crash = λ honest book left. inl left;
}

-- ---- requests that ask the store

asks_something : (query : Query) → asks_store query ≡ true → query ≢ AsksElsewhere
asks_something query asks = λ e. let none : asks_store query ≡ false = ap asks_store e in cc

-- a call of one
pub store_call : {S : Type 0} (state : S → State) (desk new_desk : S) (query : Query) (reply : Reply) → asks_store query ≡ true
    → Proceeds (state desk) (state new_desk) query reply → Calls state desk new_desk query reply
store_call state desk new_desk query reply asks proceeds = record {
  proceeds = proceeds;
  untouched = λ none. absurd (let clash : true ≡ false = sym asks ∙ none in cc);
  unknown = λ e. absurd (asks_something query asks e);
}

-- what asks to put what a reader was fed is answered by that put
pub fed_call : {S : Type 0} (state : S → State) (desk new_desk : S) (asked : Asked) (put : FedPut) (reply : Reply) → asked ≡ asked_so.Fed put
    → ((bytes : List ℕ) → WasFed put.reader bytes → Proceeds (state desk) (state new_desk) (Puts put.key.sender put.key.number bytes) reply)
    → (query : Query) → StandsFor asked query → Calls state desk new_desk query reply
fed_call state desk new_desk asked put reply is proceeds query stands =
    let P : Asked → Type 0 = λ a. StandsFor a query in
    let so : StandsFor (asked_so.Fed put) query = subst P is stands in
    let Q : Query → Type 0 = λ q. Calls state desk new_desk q reply in
    subst Q (sym so.2) (store_call state desk new_desk (Puts put.key.sender put.key.number so.0) reply refl (proceeds so.0 so.1))
