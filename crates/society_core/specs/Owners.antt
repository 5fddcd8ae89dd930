-- Whose a recording is at a cut: the only work of the cut whose version there names it.
use Rattle.std.specs.Prelude.{ℕ, ◌≡◌, ◌==◌, ◌&&◌, Any, Bool, true, false, List, [], ◌∷◌, Option, Some, None, Result, Ok, Err, bytes_eq, map}
use Rattle.std.specs.List.{enumerate_from, filter, flat_map, list_any}
use Rattle.cwr_files.specs.Contents.{transactions_of}
use Rattle.cwr_files.specs.Transaction.{number_of_work}
use Rattle.cwr_files.specs.declared.transmission.Transaction.{Transaction}
use Rattle.share_rules.specs.declared.office.Office.{Office}
use Rattle.work_ids.specs.declared.fault.IdFault.{IdFault}
use Rattle.works_core.specs.Recordings.{isrcs_of}
use Rattle.works_core.specs.declared.version.WorkVersion.{WorkVersion}
use Rattle.society_core.specs.Book.{Book, transaction_at, transmissions_to, version_in}
use Rattle.society_core.specs.Orders.{Order}
use Rattle.society_core.specs.declared.transmission_key.TransmissionKey.{TransmissionKey}

-- the version of a sender's work at a cut: whose it is, and its transaction, which has the work's number
pub record CutWork : Type 0 where
  pub sender : List ℕ
  pub transaction : Transaction

-- whether a version is the transaction at this place
abbrev pub is_at : ℕ → ℕ → Option WorkVersion → Bool
is_at number place None = false
is_at number place (Some version) = version.transmission == number && version.place == place

-- whether a transaction is the version of its work at a cut, by its transmission and place
abbrev pub is_version_at : Office → Book → TransmissionKey → ℕ → ℕ → Result (List ℕ) IdFault → Bool
is_version_at office book key number place (Ok work) = is_at number place (version_in office book key.sender work key.number)
is_version_at office book key number place (Err fault) = false

-- a transaction as the version of its work at a cut
abbrev pub cut_work : List ℕ → Transaction → CutWork
cut_work sender transaction = record { sender = sender; transaction = transaction }

-- those of a transmission's transactions that are the versions of their works at a sender's cut
abbrev pub versions_of_transmission : Office → Book → TransmissionKey → ℕ → List Transaction → List CutWork
versions_of_transmission office book key number transactions =
    map (λ placed. cut_work key.sender placed.1) (filter (λ placed. is_version_at office book key number placed.0 (number_of_work placed.1)) (enumerate_from 0 transactions))

-- the versions of a sender's works at its cut, each work once (profile)
abbrev pub versions_at_cut : Office → Book → TransmissionKey → List CutWork
versions_at_cut office book key =
    flat_map (λ sent. versions_of_transmission office book key sent.0 (transactions_of sent.1)) (transmissions_to book key.sender key.number)

-- the versions of all works of an order's cut
abbrev pub works_of_cut : Office → Book → Order → List CutWork
works_of_cut office book order = flat_map (versions_at_cut office book) order.cut

-- whether a work's version has a REC with this ISRC
abbrev pub names_recording : List ℕ → CutWork → Bool
names_recording isrc work = list_any (bytes_eq isrc) (isrcs_of work.transaction)

-- the only element of a list, none where there is none or more than one
abbrev pub sole : {X : Type 0} → List X → Option X
sole [] = None
sole (x ∷ []) = Some x
sole (x ∷ y ∷ more) = None

-- the owner of a recording: the only work of the cut whose version there has a REC with its ISRC, none where there is none or more than one (profile)
abbrev pub owner : Office → Book → Order → List ℕ → Option CutWork
owner office book order isrc = sole (filter (names_recording isrc) (works_of_cut office book order))

-- a sender's work owns a recording
abbrev pub Owns : Office → Book → Order → List ℕ → List ℕ → List ℕ → Type 0
Owns office book order isrc sender work =
    (owned : CutWork) × (owner office book order isrc ≡ Some owned) × (owned.sender ≡ sender) × (number_of_work owned.transaction ≡ Ok work)

-- the version of a work at its sender's cut names a recording
pub record NamesAt (office : Office) (book : Book) (isrc work : List ℕ) (key : TransmissionKey) : Type 0 where
  pub version : WorkVersion
  pub its : version_in office book key.sender work key.number ≡ Some version
  pub transaction : Transaction
  pub there : transaction_at book key.sender version.transmission version.place ≡ Some transaction
  pub names : list_any (bytes_eq isrc) (isrcs_of transaction) ≡ true

-- the version of a sender's work at the cut of an order names a recording
abbrev pub NamesAtCut : Office → Book → Order → List ℕ → List ℕ → List ℕ → Type 0
NamesAtCut office book order isrc sender work = Any (λ key. (key.sender ≡ sender) × NamesAt office book isrc work key) order.cut

-- a sender's work is the only one whose version at the cut names a recording
pub record NamesAlone (office : Office) (book : Book) (order : Order) (isrc sender work : List ℕ) : Type 0 where
  pub names : NamesAtCut office book order isrc sender work
  pub alone : (other another : List ℕ) → NamesAtCut office book order isrc other another → (other ≡ sender) × (another ≡ work)
