-- Representation, not meaning: candidates for the recordings of a pool, and the works that they stand for.
use Rattle.std.specs.Prelude.{ℕ, ◌≡◌, ◌++◌, ◌∷◌, Bool, false, if◌then◌else◌, List, [], Result, Ok, Err, map, is_some, bytes_eq, true, unwrap_or}
use Rattle.std.specs.List.{filter, list_all, list_any}
use Rattle.cwr_files.specs.Contents.{transactions_of, transmission_in}
use Rattle.cwr_files.specs.declared.transmission.Transaction.{Transaction}
use Rattle.perf_returns.specs.Returns.{performances_in}
use Rattle.perf_returns.specs.declared.performance.Performance.{Performance}
use Rattle.society_core.specs.declared.return_key.ReturnKey.{ReturnKey}
use Rattle.share_rules.specs.declared.holder.Holder.{Holder}
use Rattle.share_rules.specs.declared.kind.Kind.{Kind}
use Rattle.share_rules.specs.declared.office.Office.{Office}
use Rattle.cwr_files.specs.Transaction.{number_of_work}
use Rattle.society_core.specs.Book.{Book, body_at, is_applied, return_at}
use Rattle.society_core.specs.Claims.{is_candidate_for}
use Rattle.society_core.specs.Orders.{IsOrder, Order}
use Rattle.society_core.specs.Owners.{CutWork, cut_work, is_at, names_recording, versions_at_cut, versions_of_transmission}
use Rattle.society_core.specs.Points.{is_tallied}
use Rattle.society_core.specs.Pools.{holders_of}
use Rattle.society_core.specs.declared.candidates.Weighing.{Weighing}
use Rattle.society_core.specs.declared.claim_list.Candidate.{Candidate}
use Rattle.society_core.specs.declared.points.Tally.{Tally}
use Rattle.society_core.specs.declared.transmission_key.TransmissionKey.{TransmissionKey}
use Rattle.work_ids.specs.declared.fault.IdFault.{IdFault}
use Rattle.works_core.specs.Versions.{work_at}
use Rattle.works_core.specs.Numbered.{JudgedTransmission}
use Rattle.works_core.specs.Recordings.{isrcs_of}

-- which work may own a recording: its sender's key, its number, and the holders of its version
pub record Claimant : Type 0 where
  pub sender : List ℕ
  pub work : Result (List ℕ) IdFault
  pub holders : List Holder

-- which work a candidate stands for
abbrev pub claimant_of : Candidate → Claimant
claimant_of candidate = record { sender = candidate.sender; work = Ok candidate.work; holders = candidate.holders }

-- a work of a cut, by what weighs it
abbrev pub claimant_by : (CutWork → List Holder) → CutWork → Claimant
claimant_by weigh work = record { sender = work.sender; work = number_of_work work.transaction; holders = weigh work }

-- the works for which the candidates for a recording stand, in order
abbrev pub claimants_among : List Candidate → List ℕ → List Claimant
claimants_among candidates isrc = map claimant_of (filter (is_candidate_for isrc) candidates)

-- the works that name a recording, by what weighs a work, in order
abbrev pub claimants_naming : (CutWork → List Holder) → List CutWork → List ℕ → List Claimant
claimants_naming weigh works isrc = map (claimant_by weigh) (filter (names_recording isrc) works)

-- candidates stand for works, by what weighs a work: for each of these recordings they are the works that name it, in the same order
pub record StandFor (weigh : CutWork → List Holder) (of_these : List ℕ → Bool) (works : List CutWork) (candidates : List Candidate) : Type 0 where
  pub same : (isrc : List ℕ) → of_these isrc ≡ true → claimants_among candidates isrc ≡ claimants_naming weigh works isrc

-- candidates for these recordings are added that stand for some works more
abbrev pub AddsCandidates : (CutWork → List Holder) → (List ℕ → Bool) → List CutWork → List Candidate → List Candidate → Type 0
AddsCandidates weigh of_these more old new = (works : List CutWork) → StandFor weigh of_these works old → StandFor weigh of_these (works ++ more) new

-- each of these recordings that is named stands once in a list, and none that is not named
abbrev pub ListsOnce : (List ℕ → Bool) → List (List ℕ) → List (List ℕ) → Type 0
ListsOnce of_these named listed = (isrc : List ℕ) → of_these isrc ≡ true → filter (λ one. bytes_eq one isrc) listed ≡ (if list_any (bytes_eq isrc) named then isrc ∷ [] else [])

-- the candidate that a work makes for a recording
abbrev pub candidate_with : List ℕ → List ℕ → List Holder → List ℕ → Candidate
candidate_with sender work holders isrc = record { isrc = isrc; sender = sender; work = work; holders = holders }

-- the candidates that a work makes for these recordings are appended, each with these holders
abbrev pub AppendsCandidates : List ℕ → List ℕ → List Holder → List (List ℕ) → List Candidate → List Candidate → Type 0
AppendsCandidates sender work holders isrcs old new = new ≡ old ++ map (candidate_with sender work holders) isrcs

-- the candidates have those of these works more, for the recordings that were played, with their holders in this right
abbrev pub AddsWorks : Weighing → List CutWork → List Candidate → List Candidate → Type 0
AddsWorks weighing works old new = AddsCandidates (holders_of weighing.kind weighing.office.now) (is_tallied weighing.tally.now) works old new

-- they are the candidates of these works
abbrev pub AreFor : Kind → Office → Tally → List CutWork → List Candidate → Type 0
AreFor kind office tally works candidates = StandFor (holders_of kind office) (is_tallied tally) works candidates

-- the transactions of a sender's transmission
abbrev pub transactions_sent : Book → List ℕ → ℕ → List Transaction
transactions_sent book sender n = transactions_of (transmission_in (unwrap_or (body_at book sender n) []))

-- each number of an order's cut is in its sender's line (profile)
abbrev pub ReachesCut : Book → Order → Type 0
ReachesCut book order = list_all (is_applied book) order.cut ≡ true

-- whether a transaction is the version that its work has at a cut of a line
abbrev pub is_version_by : List JudgedTransmission → ℕ → ℕ → ℕ → Result (List ℕ) IdFault → Bool
is_version_by line cut number place (Ok work) = is_at number place (work_at line work cut)
is_version_by line cut number place (Err fault) = false

-- a transaction as the version of its work, where it is one
abbrev pub work_where : Bool → List ℕ → Transaction → List CutWork
work_where is_version sender transaction = if is_version then cut_work sender transaction ∷ [] else []

-- for each of these recordings that is named, one candidate more stands for this work, behind those that there were
abbrev pub AddsClaimant : Claimant → (List ℕ → Bool) → List (List ℕ) → List Candidate → List Candidate → Type 0
AddsClaimant claimant of_these named old new =
    (isrc : List ℕ) → of_these isrc ≡ true → claimants_among new isrc ≡ claimants_among old isrc ++ (if list_any (bytes_eq isrc) named then claimant ∷ [] else [])

-- a sender's work of this number, with the holders that a transaction of it gives in this right
abbrev pub claimant_for : Weighing → List ℕ → List ℕ → Transaction → Claimant
claimant_for weighing sender work transaction = record { sender = sender; work = Ok work; holders = holders_of weighing.kind weighing.office.now (cut_work sender transaction) }

-- the candidates of a sender's work are added: one for each recording of a tally that its transaction names
abbrev pub AddsWork : Weighing → List ℕ → List ℕ → Transaction → List Candidate → List Candidate → Type 0
AddsWork weighing sender work transaction old new = AddsClaimant (claimant_for weighing sender work transaction) (is_tallied weighing.tally.now) (isrcs_of transaction) old new

-- the candidates of a transaction are added where it is the version that its work has at a cut of a line
abbrev pub AddsVersion : Weighing → List JudgedTransmission → TransmissionKey → ℕ → ℕ → Transaction → List Candidate → List Candidate → Type 0
AddsVersion weighing line key number place transaction old new =
    AddsWorks weighing (work_where (is_version_by line key.number number place (number_of_work transaction)) key.sender transaction) old new

-- the candidates of those of a transmission's transactions are added that are versions at its sender's cut
abbrev pub AddsSent : Weighing → Book → TransmissionKey → ℕ → List Candidate → List Candidate → Type 0
AddsSent weighing book key number old new =
    AddsWorks weighing (versions_of_transmission weighing.office.now book key number (transactions_sent book key.sender number)) old new

-- the candidates of a sender's works are added as they are at its cut
abbrev pub AddsSender : Weighing → Book → TransmissionKey → List Candidate → List Candidate → Type 0
AddsSender weighing book key old new = AddsWorks weighing (versions_at_cut weighing.office.now book key) old new

-- each return that an order names is there (profile)
abbrev pub HasReturns : Book → Order → Type 0
HasReturns book order = list_all (λ key. is_some (return_at book key)) order.returns ≡ true

-- an order whose pool can be paid out of a book: its returns are there, its cut is reached, and it is in the form in which orders are kept
pub record CanBePaid (book : Book) (order : Order) : Type 0 where
  pub returns : HasReturns book order
  pub reached : ReachesCut book order
  pub kept : IsOrder order

-- the performances of a return
abbrev pub rows_of_return : Book → ReturnKey → List Performance
rows_of_return book key = performances_in (unwrap_or (return_at book key) [])
