-- Steps and runs: what is answered to a list of requests, one after another.
use Rattle.std.specs.Prelude.{List, [], ◌∷◌, ◌++◌, ◌≡◌, ◌⊎◌, map, length, IsTrue, Bool, true, false, Option, Some, None, Result, Ok, Err, ⊤}
use Rattle.share_rules.specs.declared.office.Office.{Office}
use Rattle.society_core.specs.Book.{Book}
use Rattle.society_core.specs.Requests.{Query, StatesFaulty, ClosesFaulty, Inquires, AsksElsewhere, Reply, Refused, query_of, reply_of}
use Rattle.society_core.specs.Answers.{answer, next}
use Rattle.society_core.specs.Headline.{TellsWhatCame}
use Rattle.society_core.specs.State.{ChangesNothing, Goes, State}
use Rattle.society_core.specs.declared.inquiry.Inquiry.{Inquiry}
use Rattle.society_core.specs.declared.refusal.Refusal.{Refusal}
use Rattle.society_core.specs.declared.refusal.Refusal.TheVariants.{Unavailable, Unknown}
use Rattle.society_core.specs.declared.request.Request.{Request}
use Rattle.society_core.specs.declared.answers.Answer.{Answer}

-- one request is answered as the book says and the book goes on, or the office is unavailable and the book stays
abbrev pub Step : Office → Book → Query → Reply → Book → Type 0
Step office book query reply after =
    ((reply ≡ answer office book query) × (after ≡ next book query)) ⊎ ((reply ≡ Refused Unavailable) × (after ≡ book))

-- a store that was clean told what its book says, and a crash leaves the book to which that leads
pub record TellsTruth (old new : State) (query : Query) (reply : Reply) : Type 0 where
  pub clean : IsTrue old.is_clean
  pub says : reply ≡ answer old.office old.book query
  pub lasts : (book : Book) → new.left book → book ≡ next old.book query

-- over a medium that told the truth the office is unavailable, or tells the truth
abbrev pub IsHonest : State → State → Query → Reply → Type 0
IsHonest old new query reply = IsTrue new.is_honest → (reply ≡ Refused Unavailable) ⊎ TellsTruth old new query reply

-- whether a request asks the store: one for nothing that the office has does not, nor does an end or an order at fault
abbrev pub asks_store : Query → Bool
asks_store (StatesFaulty fault) = false
asks_store (ClosesFaulty fault) = false
asks_store AsksElsewhere = false
asks_store other = true

-- a call proceeds by a step where the store is clean when it ends, a crash in it may leave the next book, and where it asks the store and the
-- medium told the truth it is answered the truth, or that the office is unavailable
pub record Proceeds (old new : State) (query : Query) (reply : Reply) : Type 0 where
  pub step : IsTrue new.is_clean → Step old.office old.book query reply new.book
  pub goes : Goes old new (λ book. book ≡ next old.book query)
  pub told : asks_store query ≡ true → IsHonest old new query reply

-- A request was answered by a call that led the store on. One that asks nothing of the store leaves it untouched; one for nothing that
-- the office has asks no memory either, so it is told that this is unknown, and never that the office is unavailable.
pub record Calls {S : Type 0} (state : S → State) (desk new_desk : S) (query : Query) (reply : Reply) : Type 0 where
  pub proceeds : Proceeds (state desk) (state new_desk) query reply
  pub untouched : asks_store query ≡ false → new_desk ≡ desk
  pub unknown : query ≡ AsksElsewhere → reply ≡ Refused Unknown

-- a call that looks up what a question asks for: a step where the store is clean when it ends, nothing changed, and over a medium that
-- told the truth the truth, or that the office is unavailable
pub record LooksUp (old new : State) (inquiry : Inquiry) (reply : Reply) : Type 0 where
  pub step : IsTrue new.is_clean → Step old.office old.book (Inquires inquiry) reply new.book
  pub asks : ChangesNothing old new
  pub told : IsHonest old new (Inquires inquiry) reply

-- a check refuses as is due, or where the office is unavailable
abbrev pub RefusesBy : Option Refusal → Result ⊤ Refusal → Type 0
RefusesBy due (Ok done) = due ≡ None
RefusesBy due (Err refusal) = (due ≡ Some refusal) ⊎ (refusal ≡ Unavailable)

-- a check over a medium that told the truth refuses as is due, by a store that was clean, or where the office is unavailable
abbrev pub RefusesTruly : State → Option Refusal → Result ⊤ Refusal → Type 0
RefusesTruly old due (Ok done) = due ≡ None
RefusesTruly old due (Err refusal) = (IsTrue old.is_clean × (due ≡ Some refusal)) ⊎ (refusal ≡ Unavailable)

-- each request of a list is answered by a step, one after another
abbrev pub Run : Office → Book → List Query → List Reply → Book → Type 0
Run office book [] [] after = after ≡ book
Run office book (query ∷ queries) (reply ∷ replies) after = (middle : Book) × Step office book query reply middle × Run office middle queries replies after
Run office book [] (reply ∷ replies) after = ⊥
Run office book (query ∷ queries) [] after = ⊥

-- the answers to requests are appended: as many as the requests, and a run where the store is clean at the end
pub record AppendsRun (office : Office) (before after : Book) (is_clean : Bool) (requests : List Request) (old new : List Answer) : Type 0 where
  pub more : List Answer
  pub appended : new ≡ old ++ more
  pub count : length more ≡ length requests
  pub run : IsTrue is_clean → Run office before (map query_of requests) (map reply_of more) after

-- the answers to requests are appended, and lead from what a store showed to what it shows
abbrev pub AppendsAnswers : State → State → List Request → List Answer → List Answer → Type 0
AppendsAnswers before after requests old new = AppendsRun before.office before.book after.book after.is_clean requests old new

-- and where the store is clean at the end they tell what its book holds
abbrev pub TellsWhatStoreHolds : State → State → List Request → List Answer → List Answer → Type 0
TellsWhatStoreHolds before after requests old new = IsTrue after.is_clean → TellsWhatCame before.book after.book requests old new
