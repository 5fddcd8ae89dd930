-- What the answers to the questions of a book say (representation).
use Rattle.std.specs.Prelude.{ℕ, ◌≡◌, List, Option, Some, Vec, option_map}
use Rattle.std.specs.List.{slice_get}
use Rattle.std.specs.declared.alloc.Global.{Global}
use Rattle.ack_files.specs.Acknowledgement.{acknowledgement_file}
use Rattle.cwr_files.specs.Contents.{transactions_of}
use Rattle.pool_split.specs.declared.claim.Credit.{Credit}
use Rattle.share_rules.specs.declared.office.Office.{Office}
use Rattle.society_core.specs.Answers.{shown_by}
use Rattle.society_core.specs.Book.{Book, front, held, order_at}
use Rattle.society_core.specs.Pools.{credits_of}
use Rattle.society_core.specs.Requests.{Shown}
use Rattle.society_core.specs.declared.answers.SenderStatus.{SenderStatus}
use Rattle.society_book.specs.Items.{items_of, transmission_kept}
use Rattle.works_core.specs.declared.verdict.Verdict.{Verdict}
use Rattle.works_core.specs.declared.version.WorkVersion.{WorkVersion}

-- the acknowledgement of the transmission that is kept, with these verdicts
abbrev pub IsAcknowledged : Office → List ℕ → List Verdict → Option (List ℕ) → Option (Vec ℕ Global) → Type 0
IsAcknowledged office sender verdicts kept text = items_of text ≡ Some (acknowledgement_file office sender (transmission_kept kept) verdicts)

-- the credits of a pool, none where it is not closed
abbrev pub AreCredits : Office → Book → ℕ → Option (Vec Credit Global) → Type 0
AreCredits office book pool found = items_of found ≡ option_map (credits_of office book) (order_at book pool)

-- how a sender stands in a book
abbrev pub IsStanding : Book → List ℕ → SenderStatus → Type 0
IsStanding book sender status = (status.front ≡ front book sender) × (status.held.items ≡ held book sender)

-- what a version shows of the transmission that is kept, if its transaction is there
abbrev pub shown_of_kept : Office → List ℕ → List ℕ → WorkVersion → Option (List ℕ) → Option Shown
shown_of_kept office sender work version kept =
    option_map (shown_by office sender work version) (slice_get (transactions_of (transmission_kept kept)) version.place)
