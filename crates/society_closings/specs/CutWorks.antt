-- The works of a pool's candidates out of the tables: those that name its recordings, and the version of each at its sender's cut.
use Rattle.std.specs.Prelude.{ℕ, ◌≡◌, ◌&&◌, Bool, true, false, List, [], ◌∷◌, Option, Some, None, Result, Ok, Err, Vec, bytes_eq, if◌then◌else◌, is_some, map}
use Rattle.std.specs.BTreeMap as tree
use Rattle.std.specs.BTreeSet.{BTreeSet, contains}
use Rattle.std.specs.List.{AllByRecursion, enumerate_from, filter, list_any, slice_get}
use Rattle.std.specs.Ordering.{eq_by_cmp, nat_cmp}
use Rattle.std.specs.declared.alloc.Global.{Global}
use Rattle.cwr_files.specs.Transaction.{number_of_work}
use Rattle.cwr_files.specs.declared.transmission.Transaction.{Transaction}
use Rattle.share_rules.specs.declared.office.Office.{Office}
use Rattle.society_core.specs.Book.{Book, is_one_of, numbers_to, version_in}
use Rattle.society_core.specs.Candidates.{transactions_sent}
use Rattle.society_core.specs.Keys.{bytes_cmp}
use Rattle.society_core.specs.Owners.{CutWork, cut_work, is_at, is_version_at, names_recording}
use Rattle.society_core.specs.declared.transmission_key.TransmissionKey.{TransmissionKey}
use Rattle.society_rows.specs.Layout as layout
use Rattle.society_rows.specs.Reads.{has_at}
use Rattle.society_rows.specs.Stored.{rows_in}
use Rattle.sqlite_trees.specs.Tree.{Trees}
use Rattle.sqlite_value.specs.Order.{Row}
use Rattle.sqlite_value.specs.declared.value.Value.TheVariants.{Text}
use Rattle.society_book.specs.Columns.{text_at}
use Rattle.society_closings.specs.declared.chosen.Chosen.{Chosen}
use Rattle.society_closings.specs.declared.named_works.NamedWorks.{NamedWorks}
use Rattle.society_closings.specs.declared.wanted.Wanted.{Wanted}
use Rattle.society_closings.specs.declared.works_by_recording.WorksByRecording.{WorksByRecording}
use Rattle.work_ids.specs.Blanks.{fill, without_trailing_blanks}
use Rattle.work_ids.specs.Isrc.{is_isrc}
use Rattle.work_ids.specs.declared.fault.IdFault.{IdFault}
use Rattle.works_core.specs.declared.version.WorkVersion.{WorkVersion}

-- whether a work is among those of a sender
abbrev pub has_work : Option (BTreeSet (List ℕ)) → List ℕ → Bool
has_work None work = false
has_work (Some works) work = contains bytes_cmp works work

-- whether works of a sender are noted at all
abbrev pub notes_of_sender : NamedWorks → List ℕ → Bool
notes_of_sender named sender = is_some (tree.get bytes_cmp named.by_sender sender)

-- whether a work of a sender is noted
abbrev pub is_noted : NamedWorks → List ℕ → List ℕ → Bool
is_noted named sender work = has_work (tree.get bytes_cmp named.by_sender sender) work

-- the work number in a row of a recording, filled with blanks to 14 bytes
abbrev pub work_at_row : Row → List ℕ
work_at_row row = fill 14 (without_trailing_blanks (text_at 1 row))

-- the work of a row of a recording is noted, where works of its sender are
abbrev pub IsNoted : NamedWorks → Row → Type 0
IsNoted named row = notes_of_sender named (text_at 0 row) ≡ true → is_noted named (text_at 0 row) (work_at_row row) ≡ true

-- works of the same senders are noted, and none is lost
pub record NotesMore (old new : NamedWorks) : Type 0 where
  pub senders : (sender : List ℕ) → notes_of_sender new sender ≡ notes_of_sender old sender
  pub works : (sender work : List ℕ) → is_noted old sender work ≡ true → is_noted new sender work ≡ true

-- each of these works is noted, where works of its sender are
abbrev pub NotesListed : List (List ℕ × List ℕ) → NamedWorks → Type 0
NotesListed works named = AllByRecursion (λ one. notes_of_sender named one.0 ≡ true → is_noted named one.0 one.1 ≡ true) works

-- each work is noted that names a recording in the tables, in whichever of its versions
abbrev pub NotesRecording : Trees → List ℕ → NamedWorks → Type 0
NotesRecording db isrc named = AllByRecursion (λ row. has_at 3 (Text isrc) row ≡ true → IsNoted named row) (rows_in layout.recordings db)

-- so of each of these recordings
abbrev pub NotesRecordings : Trees → (List ℕ → Bool) → NamedWorks → Type 0
NotesRecordings db of_these named = (isrc : List ℕ) → of_these isrc ≡ true → NotesRecording db isrc named

-- the items of a list, none where there is no list
abbrev pub items_or_none : {T : Type 0} → Option (Vec T Global) → List T
items_or_none None = []
items_or_none (Some list) = list.items

-- the works that are listed under a recording, none where it is not there
abbrev pub works_listed : WorksByRecording → List ℕ → List (List ℕ × List ℕ)
works_listed works isrc = items_or_none (tree.get bytes_cmp works.by_recording isrc)

-- a work of one recording, as one of another
abbrev pub listed_at : List ℕ → List ℕ → (List ℕ × List ℕ) → List (List ℕ × List ℕ)
listed_at other isrc work = if eq_by_cmp bytes_cmp isrc other then work ∷ [] else []

-- whether a work of a sender is listed under a recording
abbrev pub is_listed : WorksByRecording → List ℕ → List ℕ → List ℕ → Bool
is_listed works isrc sender work = list_any (λ one. bytes_eq one.0 sender && bytes_eq one.1 work) (works_listed works isrc)

-- none that was listed is lost
abbrev pub ListsMore : WorksByRecording → WorksByRecording → Type 0
ListsMore old new = (isrc sender work : List ℕ) → is_listed old isrc sender work ≡ true → is_listed new isrc sender work ≡ true

-- the work of a row of a recording is listed under this one
abbrev pub IsListed : WorksByRecording → List ℕ → Row → Type 0
IsListed works isrc row = is_listed works isrc (text_at 0 row) (work_at_row row) ≡ true

-- the work of a row is listed under its recording, where this is an ISRC and wanted
abbrev pub ListsRow : BTreeSet (List ℕ) → WorksByRecording → Row → Type 0
ListsRow wanted works row = (isrc : List ℕ) → is_isrc isrc ≡ true → contains bytes_cmp wanted isrc ≡ true → has_at 3 (Text isrc) row ≡ true → IsListed works isrc row

-- so of each row of the tables whose sender is one of these
abbrev pub ListsSender : (List ℕ → Bool) → BTreeSet (List ℕ) → WorksByRecording → Trees → Type 0
ListsSender of_these wanted works db = AllByRecursion (λ row. of_these (text_at 0 row) ≡ true → ListsRow wanted works row) (rows_in layout.recordings db)

-- each work in the tables is listed under each recording that it names, in whichever of its versions, where this recording is wanted of its sender
abbrev pub ListsWorks : (List ℕ → List ℕ → Bool) → Trees → WorksByRecording → Type 0
ListsWorks wants db works =
    (isrc : List ℕ) → is_isrc isrc ≡ true → AllByRecursion (λ row. wants (text_at 0 row) isrc ≡ true → has_at 3 (Text isrc) row ≡ true → IsListed works isrc row) (rows_in layout.recordings db)

-- whether a sender is one of a cut
abbrev pub is_of_cut : List TransmissionKey → List ℕ → Bool
is_of_cut cut sender = list_any (λ key. bytes_eq key.sender sender) cut

-- whether a recording of a sender is wanted: the sender is one of a cut, and the recording one of these
abbrev pub wants_for : List TransmissionKey → (List ℕ → Bool) → List ℕ → List ℕ → Bool
wants_for cut of_these sender isrc = is_of_cut cut sender && of_these isrc

-- whether it is by what is looked for
abbrev pub wants : Wanted → List ℕ → List ℕ → Bool
wants wanted sender isrc = contains bytes_cmp wanted.senders sender && contains bytes_cmp wanted.recordings isrc

-- none that was wanted is lost
abbrev pub WantsMore : Wanted → Wanted → Type 0
WantsMore old new = (sender isrc : List ℕ) → wants old sender isrc ≡ true → wants new sender isrc ≡ true

-- these recordings are wanted of the senders of this cut
abbrev pub Wants : Wanted → List TransmissionKey → (List ℕ → Bool) → Type 0
Wants wanted cut of_these = (sender isrc : List ℕ) → wants_for cut of_these sender isrc ≡ true → wants wanted sender isrc ≡ true

-- the version that is chosen of a work, none where none is
abbrev pub chosen_at : Chosen → List ℕ → Option WorkVersion
chosen_at chosen work = tree.get bytes_cmp chosen.versions work

-- of each of these works of a sender its version at a cut is chosen, and of no other work any; the transmissions of all are known, and each is of the line up to the cut
pub record Chooses (office : Office) (book : Book) (key : TransmissionKey) (of_these : List ℕ → Bool) (chosen : Chosen) : Type 0 where
  pub versions : (work : List ℕ) → chosen_at chosen work ≡ (if of_these work then version_in office book key.sender work key.number else None)
  pub transmissions : (work : List ℕ) (version : WorkVersion) → chosen_at chosen work ≡ Some version → contains nat_cmp chosen.transmissions version.transmission ≡ true
  pub within : (number : ℕ) → contains nat_cmp chosen.transmissions number ≡ true → is_one_of (numbers_to book key.sender key.number) number ≡ true

-- whether a transaction is the version that is chosen of its work, by its transmission and place
abbrev pub is_chosen : Chosen → ℕ → ℕ → Result (List ℕ) IdFault → Bool
is_chosen chosen number place (Ok work) = is_at number place (chosen_at chosen work)
is_chosen chosen number place (Err fault) = false

-- those of a transmission's transactions from a place on that are chosen
abbrev pub works_chosen : Chosen → List ℕ → ℕ → ℕ → List Transaction → List CutWork
works_chosen chosen sender number place transactions =
    map (λ placed. cut_work sender placed.1) (filter (λ placed. is_chosen chosen number placed.0 (number_of_work placed.1)) (enumerate_from place transactions))

-- of the transactions of a sender's line up to its cut that name one of these recordings those are chosen that are the versions of their works there; the transmissions of all that are chosen are known, and each is of the line up to the cut
pub record ChoosesNaming (office : Office) (book : Book) (key : TransmissionKey) (of_these : List ℕ → Bool) (chosen : Chosen) : Type 0 where
  pub right : (number place : ℕ) (transaction : Transaction) (isrc : List ℕ) → is_one_of (numbers_to book key.sender key.number) number ≡ true → slice_get (transactions_sent book key.sender number) place ≡ Some transaction → of_these isrc ≡ true → names_recording isrc (cut_work key.sender transaction) ≡ true → is_chosen chosen number place (number_of_work transaction) ≡ is_version_at office book key number place (number_of_work transaction)
  pub transmissions : (work : List ℕ) (version : WorkVersion) → chosen_at chosen work ≡ Some version → contains nat_cmp chosen.transmissions version.transmission ≡ true
  pub within : (number : ℕ) → contains nat_cmp chosen.transmissions number ≡ true → is_one_of (numbers_to book key.sender key.number) number ≡ true
