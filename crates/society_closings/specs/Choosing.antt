-- What the steps that find the candidates of a pool say, of every book whose works the tables hold (representation).
use Rattle.std.specs.Prelude.{ℕ, ◌++◌, ◌≡◌, ◌≤◌, ◌||◌, Bool, IfOk, List, [], OnOk, Option, Result, Vec, unwrap_or, bytes_eq, flat_map, length, true}
use Rattle.std.specs.List.{list_all, list_any}
use Rattle.std.specs.declared.alloc.Global.{Global}
use Rattle.cwr_files.specs.Contents.{transactions_of, transmission_in}
use Rattle.perf_returns.specs.Returns.{performances_in}
use Rattle.perf_returns.specs.declared.performance.Performance.{Performance}
use Rattle.pool_split.specs.Credits.{credits_together}
use Rattle.pool_split.specs.declared.claim.Credit.{Credit}
use Rattle.share_rules.specs.declared.office.Office.{Office}
use Rattle.share_rules.specs.declared.kind.Kind.{Kind}
use Rattle.sqlite_trees.specs.Tree.{Trees}
use Rattle.sqlite_value.specs.Order.{Row}
use Rattle.society_rows.specs.declared.fault.RowFault.{RowFault}
use Rattle.society_core.specs.Book.{Book, is_applied, is_one_of, numbers_to, version_in}
pub use Rattle.society_core.specs.Candidates.{AddsWorks, AreFor}
use Rattle.society_core.specs.Candidates.{ReachesCut, rows_of_return, transactions_sent}
use Rattle.society_core.specs.Orders.{Order}
use Rattle.society_core.specs.Owners.{versions_at_cut, versions_of_transmission, works_of_cut}
use Rattle.society_core.specs.Points.{Tallies, is_tallied, rows_named}
use Rattle.society_core.specs.Pools.{credits_of}
use Rattle.society_core.specs.declared.candidates.Weighing.{Weighing}
use Rattle.society_core.specs.declared.claim_list.Candidate.{Candidate}
use Rattle.society_core.specs.declared.return_key.ReturnKey.{ReturnKey}
use Rattle.society_core.specs.declared.points.Tally.{Tally}
use Rattle.society_core.specs.declared.transmission_key.TransmissionKey.{TransmissionKey}
use Rattle.society_closings.specs.CutWorks.{Chooses, ChoosesNaming, ListsWorks, NotesRecordings, notes_of_sender, wants_for, works_chosen}
use Rattle.society_book.specs.Shown.{ShowBody}
use Rattle.society_book.specs.Sources.{HoldsWorks}
use Rattle.society_closings.specs.declared.chosen.Chosen.{Chosen}
use Rattle.society_closings.specs.declared.named_works.NamedWorks.{NamedWorks}
use Rattle.society_closings.specs.Weighing.{AreLent, AreWorksWeighed}
use Rattle.society_closings.specs.declared.pool_works.PoolWorks.{PoolWorks}
use Rattle.society_closings.specs.declared.weighed_works.WeighedWorks.{WeighedWorks}
use Rattle.works_core.specs.declared.version.WorkVersion.{WorkVersion}

-- what is lent of versions that are weighed is so for the recordings of a tally
abbrev pub IsLent : Weighing → Trees → Option WeighedWorks → Type 0
IsLent weighing db weighed = AreLent weighing.kind weighing.office.now (is_tallied weighing.tally.now) db weighed

-- the candidates of the versions at a sender's cut are added that stand in one transmission
abbrev pub AddsOfTransmission : Weighing → TransmissionKey → ℕ → Chosen → Option WeighedWorks → List Candidate → List Candidate → Trees → Type 0
AddsOfTransmission weighing key number chosen weighed old new db =
    (book : Book) → HoldsWorks weighing.office.now book db → IsLent weighing db weighed → is_one_of (numbers_to book key.sender key.number) number ≡ true → ChoosesNaming weighing.office.now book key (is_tallied weighing.tally.now) chosen
    → AddsWorks weighing (versions_of_transmission weighing.office.now book key number (transactions_sent book key.sender number)) old new

-- the candidates of the versions at a sender's cut are added, by those that are chosen
abbrev pub AddsChosen : Weighing → TransmissionKey → Chosen → Option WeighedWorks → List Candidate → List Candidate → Trees → Type 0
AddsChosen weighing key chosen weighed old new db =
    (book : Book) → HoldsWorks weighing.office.now book db → IsLent weighing db weighed → ChoosesNaming weighing.office.now book key (is_tallied weighing.tally.now) chosen → AddsWorks weighing (versions_at_cut weighing.office.now book key) old new

-- the candidates of the versions at a sender's cut are added, by the works that are noted
abbrev pub AddsOfSender : Weighing → TransmissionKey → NamedWorks → Option WeighedWorks → List Candidate → List Candidate → Trees → Type 0
AddsOfSender weighing key named weighed old new db =
    (book : Book) → HoldsWorks weighing.office.now book db → IsLent weighing db weighed → NotesRecordings db (is_tallied weighing.tally.now) named → notes_of_sender named key.sender ≡ true → is_applied book key ≡ true
    → AddsWorks weighing (versions_at_cut weighing.office.now book key) old new

-- they are the candidates of the versions at each key of a cut, by the works that are noted
abbrev pub AreForCut : Weighing → List TransmissionKey → NamedWorks → Option WeighedWorks → Trees → List Candidate → Type 0
AreForCut weighing cut named weighed db candidates =
    (book : Book) → HoldsWorks weighing.office.now book db → IsLent weighing db weighed → NotesRecordings db (is_tallied weighing.tally.now) named
    → list_all (λ key. notes_of_sender named key.sender) cut ≡ true → list_all (is_applied book) cut ≡ true
    → AreFor weighing.kind weighing.office.now weighing.tally.now (flat_map (versions_at_cut weighing.office.now book) cut) candidates

-- they are the candidates of the works of an order's cut, where the works are listed that it looks for
abbrev pub AreForOrder : Kind → Office → Tally → Order → PoolWorks → Trees → List Candidate → Type 0
AreForOrder kind office tally order works db candidates =
    ListsWorks (wants_for order.cut (is_tallied tally)) db works.listed → AreWorksWeighed office db works → (book : Book) → HoldsWorks office book db → ReachesCut book order → AreFor kind office tally (works_of_cut office book order) candidates

-- the version of one work more is chosen, by which it stands at a cut
abbrev pub ChoosesMore : {E : Type 0} → List ℕ → Option WorkVersion → Chosen → Result (Unit {0}) E → Chosen → Type 0
ChoosesMore work version old result new =
    (office : Office) (book : Book) (key : TransmissionKey) (known : List ℕ → Bool) → Chooses office book key known old → version ≡ version_in office book key.sender work key.number
    → OnOk result (Chooses office book key (λ other. known other || bytes_eq work other) new)

-- the version of one work more is chosen
abbrev pub ChoosesWork : TransmissionKey → List ℕ → Chosen → Chosen → Trees → Type 0
ChoosesWork key work old new db =
    (office : Office) (book : Book) (known : List ℕ → Bool) → HoldsWorks office book db → is_applied book key ≡ true
    → Chooses office book key known old → Chooses office book key (λ other. known other || bytes_eq work other) new

-- the versions of these works are chosen
abbrev pub ChoosesWorks : TransmissionKey → List (List ℕ) → Trees → Chosen → Type 0
ChoosesWorks key works db chosen =
    (office : Office) (book : Book) → HoldsWorks office book db → is_applied book key ≡ true → Chooses office book key (λ work. list_any (bytes_eq work) works) chosen

-- it is the version of the work at a sender's cut
abbrev pub IsVersionAtCut : TransmissionKey → List ℕ → Trees → Option WorkVersion → Type 0
IsVersionAtCut key work db version =
    (office : Office) (book : Book) → HoldsWorks office book db → is_applied book key ≡ true → version ≡ version_in office book key.sender work key.number

-- the performances of one return more are counted, at most 10,000 of them
abbrev pub TalliesReturn : ReturnKey → Tally → Tally → Trees → Type 0
TalliesReturn key old new db =
    (office : Office) (book : Book) (before : List Performance) → HoldsWorks office book db → length before ≤ 9990000 → Tallies old before
    → Tallies new (before ++ rows_of_return book key) × (length (rows_of_return book key) ≤ 10000)

-- the performances of these returns are counted, at most 10,000,000 of them
abbrev pub TalliesReturns : List ReturnKey → Trees → Tally → Type 0
TalliesReturns keys db tally =
    (office : Office) (book : Book) → HoldsWorks office book db → length keys ≤ 1000
    → Tallies tally (flat_map (rows_of_return book) keys) × (length (flat_map (rows_of_return book) keys) ≤ 10000000)

-- the performances of an order's returns are counted, at most 10,000,000 of them
abbrev pub TalliesOrder : Order → Trees → Tally → Type 0
TalliesOrder order db tally =
    (office : Office) (book : Book) → HoldsWorks office book db → Tallies tally (rows_named book order) × (length (rows_named book order) ≤ 10000000)

-- by this tally of its returns an order pays these credits, where the works are listed that it looks for
abbrev pub PaysTallied : Office → Order → Tally → PoolWorks → Trees → List Credit → Type 0
PaysTallied office order tally works db credits =
    ListsWorks (wants_for order.cut (is_tallied tally)) db works.listed → AreWorksWeighed office db works → (book : Book) → HoldsWorks office book db → ReachesCut book order → Tallies tally (rows_named book order) → credits ≡ credits_of office book order

-- by the tally of an order's returns and its candidates it has these credits
abbrev pub PaysByTally : Tally → List Candidate → Order → Result (Vec (List Credit) Global) RowFault → Type 0
PaysByTally tally candidates order result =
    (office : Office) (book : Book) → Tallies tally (rows_named book order) → AreFor order.kind office tally (works_of_cut office book order) candidates
    → IfOk result (λ portions. credits_together portions.items ≡ credits_of office book order)

-- the performances of a return that is kept are counted
abbrev pub TalliesKept : List Row → Tally → Tally → Result (Unit {0}) RowFault → Type 0
TalliesKept rows old new result =
    (kept : Option (List ℕ)) (before : List Performance) → ShowBody kept rows → length before ≤ 9990000 → Tallies old before
    → OnOk result (Tallies new (before ++ performances_in (unwrap_or kept [])))

-- the candidates of the versions that are chosen are added that stand in the transmission that the rows show
abbrev pub AddsShown : Weighing → List Row → List ℕ → ℕ → Chosen → List Candidate → List Candidate → Result (Unit {0}) RowFault → Type 0
AddsShown weighing rows sender number chosen old new result =
    (kept : Option (List ℕ)) → ShowBody kept rows
    → OnOk result (AddsWorks weighing (works_chosen chosen sender number 0 (transactions_of (transmission_in (unwrap_or kept [])))) old new)
