-- What the readings for a pool blame where a row cannot be read: the tables have the works of no book of which these things are so.
use Rattle.std.specs.Prelude.{ℕ, ◌≡◌, ◌≤◌, Bool, true, List, is_some, length}
use Rattle.std.specs.List.{list_all}
use Rattle.share_rules.specs.declared.office.Office.{Office}
use Rattle.society_core.specs.Book.{Book, is_applied, is_one_of, numbers_to, return_at}
use Rattle.society_core.specs.Candidates.{AreFor, CanBePaid, ReachesCut}
use Rattle.society_core.specs.Orders.{Order}
use Rattle.society_core.specs.Owners.{works_of_cut}
use Rattle.society_core.specs.Points.{Tallies, is_tallied, rows_named}
use Rattle.society_core.specs.declared.claim_list.Candidate.{Candidate}
use Rattle.society_core.specs.declared.points.Tally.{Tally}
use Rattle.society_core.specs.declared.return_key.ReturnKey.{ReturnKey}
use Rattle.society_core.specs.declared.transmission_key.TransmissionKey.{TransmissionKey}
use Rattle.society_book.specs.Sources.{HoldsWorks}
use Rattle.society_closings.specs.CutWorks.{ChoosesNaming, ListsWorks, NotesRecordings, notes_of_sender, wants_for}
use Rattle.society_closings.specs.Closings.{ListsOrder}
use Rattle.society_closings.specs.Weighing.{AreWorksWeighed}
use Rattle.society_closings.specs.declared.chosen.Chosen.{Chosen}
use Rattle.society_closings.specs.declared.named_works.NamedWorks.{NamedWorks}
use Rattle.society_closings.specs.declared.pool_works.PoolWorks.{PoolWorks}
use Rattle.sqlite_trees.specs.Tree.{Trees}

-- the tables have the works of no book
abbrev pub HoldNoWorks : Trees → Type 0
HoldNoWorks db = (office : Office) (book : Book) → HoldsWorks office book db → ⊥

-- the tables have the works of no book that has this return
abbrev pub LackReturn : ReturnKey → Trees → Type 0
LackReturn key db = (office : Office) (book : Book) → HoldsWorks office book db → is_some (return_at book key) ≡ true → ⊥

-- the tables have the works of no book that has all of these returns
abbrev pub LackReturns : List ReturnKey → Trees → Type 0
LackReturns keys db = (office : Office) (book : Book) → HoldsWorks office book db → list_all (λ key. is_some (return_at book key)) keys ≡ true → ⊥

-- the tables have the works of no book in which this number is in a sender's line up to its cut
abbrev pub LackNumber : Office → TransmissionKey → ℕ → Trees → Type 0
LackNumber office key number db = (book : Book) → HoldsWorks office book db → is_one_of (numbers_to book key.sender key.number) number ≡ true → ⊥

-- the tables have the works of no book in which what is chosen are the versions at a sender's cut that name these recordings
abbrev pub LackChosen : Office → TransmissionKey → (List ℕ → Bool) → Chosen → Trees → Type 0
LackChosen office key of_these chosen db = (book : Book) → HoldsWorks office book db → ChoosesNaming office book key of_these chosen → ⊥

-- the tables have the works of no book in which a sender's cut is reached, where the works of the sender are noted that name these recordings
abbrev pub LackSender : Office → TransmissionKey → (List ℕ → Bool) → NamedWorks → Trees → Type 0
LackSender office key of_these named db =
    (book : Book) → HoldsWorks office book db → NotesRecordings db of_these named → notes_of_sender named key.sender ≡ true → is_applied book key ≡ true → ⊥

-- the tables have the works of no book in which a cut is reached, where the works of its senders are noted that name these recordings
abbrev pub LackSenders : Office → List TransmissionKey → (List ℕ → Bool) → NamedWorks → Trees → Type 0
LackSenders office cut of_these named db =
    (book : Book) → HoldsWorks office book db → NotesRecordings db of_these named
    → list_all (λ key. notes_of_sender named key.sender) cut ≡ true → list_all (is_applied book) cut ≡ true → ⊥

-- the tables have the works of no book in which the cut of an order is reached, where the works are listed that it looks for
abbrev pub LackCut : Office → Order → Tally → PoolWorks → Trees → Type 0
LackCut office order tally works db = ListsWorks (wants_for order.cut (is_tallied tally)) db works.listed → (book : Book) → HoldsWorks office book db → ReachesCut book order → ⊥

-- they have those of none in which this is the tally of the order's returns besides
abbrev pub LackTallied : Office → Order → Tally → PoolWorks → Trees → Type 0
LackTallied office order tally works db =
    ListsWorks (wants_for order.cut (is_tallied tally)) db works.listed → AreWorksWeighed office db works → (book : Book) → HoldsWorks office book db → ReachesCut book order → Tallies tally (rows_named book order) → length (rows_named book order) ≤ 10000000 → ⊥

-- a tally and candidates are those of an order in no book
abbrev pub BelongNowhere : Tally → List Candidate → Order → Type 0
BelongNowhere tally candidates order =
    (office : Office) (book : Book) → Tallies tally (rows_named book order) → length (rows_named book order) ≤ 10000000
    → AreFor order.kind office tally (works_of_cut office book order) candidates → ⊥

-- the tables have the works of no book out of which the pool of an order can be paid
abbrev pub CannotPay : Office → Order → Trees → Type 0
CannotPay office order db = (book : Book) → HoldsWorks office book db → CanBePaid book order → ⊥

-- so where the works are listed that the order looks for
abbrev pub CannotPayAmong : Office → Order → PoolWorks → Trees → Type 0
CannotPayAmong office order works db = ListsOrder office order db works → CannotPay office order db
