-- Why an order can't be answered, whether or not pools have paid its returns; and what it is answered.
use Rattle.std.specs.Prelude.{ℕ, List, Option, Some, None, Result, Ok, Err, Vec, is_some, if◌then◌else◌}
use Rattle.std.specs.BTreeSet.{BTreeSet}
use Rattle.std.specs.declared.alloc.Global.{Global}
use Rattle.share_rules.specs.declared.office.Office.{Office}
use Rattle.society_core.specs.Answers.{cut_refusal, first_refusal, refusal_or_later}
use Rattle.society_core.specs.Book.{Book, return_at}
use Rattle.society_core.specs.Orders.{Order}
use Rattle.society_core.specs.declared.refusal.Refusal.{Refusal}
use Rattle.society_core.specs.declared.refusal.Refusal.TheVariants.{ReturnUnknown}
use Rattle.society_core.specs.declared.return_key.ReturnKey.{ReturnKey}
use Rattle.order_credits.specs.Shares.{recording_shares, shares_wanted}
use Rattle.order_credits.specs.declared.share.RecordingShare.{RecordingShare}

-- the refusal of a return that is not there
abbrev pub unknown_refusal : Book → ReturnKey → Option Refusal
unknown_refusal book key = if is_some (return_at book key) then None else Some (ReturnUnknown key)

-- why an order is not answered: the first number of its cut that is not in its sender's line, else the first return that is not there (profile)
abbrev pub credit_refusal : Book → Order → Option Refusal
credit_refusal book order = refusal_or_later (first_refusal (cut_refusal book) order.cut) (first_refusal (unknown_refusal book) order.returns)

-- what an order is answered that a refusal stands against, or none
abbrev pub credits_unless : Option Refusal → List RecordingShare → Result (List RecordingShare) Refusal
credits_unless (Some refused) shares = Err refused
credits_unless None shares = Ok shares

-- what an order would credit of the recordings that are wanted, or why it can't be answered (profile)
abbrev pub credit_answer : Office → Book → Order → Option (BTreeSet (List ℕ)) → Result (List RecordingShare) Refusal
credit_answer office book order wanted = credits_unless (credit_refusal book order) (shares_wanted wanted (recording_shares office book order))

-- the shares of an answer, as a list
abbrev pub listed : Result (Vec RecordingShare Global) Refusal → Result (List RecordingShare) Refusal
listed (Ok shares) = Ok shares.items
listed (Err refused) = Err refused
