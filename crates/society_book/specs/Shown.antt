-- What rows that were read show.
use Rattle.std.specs.Prelude.{ℕ, ℤ, pos, ◌≡◌, ◌⊎◌, List, [], ◌∷◌, ◌++◌, Option, Some, None, Result, IfOk, OnOk, OnErr, IsTrue, IsPermutation, length, map, ◌==◌, if◌then◌else◌, bytes_eq, Ok, Err}
use Rattle.std.specs.List.{AllByRecursion, enumerate_from}
use Rattle.share_rules.specs.declared.office.Office.{Office}
use Rattle.sqlite_value.specs.declared.value.Value.TheVariants.{Blob, Int, Text}
use Rattle.sqlite_value.specs.Order.{Row}
use Rattle.sqlite_trees.specs.Tree.{Trees}
use Rattle.sqlite_schema.specs.declared.schema.Table.{Table}
use Rattle.sqlite.specs.State.{HasCleanDisk, State, Survives}
use Rattle.society_rows.specs.declared.fault.RowFault.{RowFault}
use Rattle.society_rows.specs.Stored.{HasLayout, KeepsOthers, rows_in}
use Rattle.society_rows.specs.Layout.{verdicts, returns}
use Rattle.pool_split.specs.declared.claim.Credit.{Credit}
use Rattle.society_core.specs.Book.{Book}
use Rattle.society_core.specs.Orders.{Order}
use Rattle.work_ids.specs.Account.{account_of}
use Rattle.work_ids.specs.declared.fault.IdFault.{IdFault}
use Rattle.work_ids.specs.declared.account.Account.{Account}
use Rattle.work_ids.specs.declared.account.Account.TheVariants.{Ipi, Party, Unclaimed}
use Rattle.society_book.specs.Columns.{whole_number_at, text_at}
use Rattle.society_book.specs.DerivedRows.{credit_row, verdict_row}
use Rattle.society_book.specs.Kept.{HoldsBook}
use Rattle.works_core.specs.declared.version.WorkVersion.{WorkVersion}
use Rattle.works_core.specs.declared.verdict.Verdict.{Verdict}
use Rattle.works_core.specs.declared.verdict.Verdict.TheVariants.{Accepted, Rejected}

-- an answer is that of every book that the tables hold
abbrev pub ByBook : {T : Type 0} → (Office → Book → T → Type 0) → Trees → T → Type 0
ByBook IsAnswer db x = (office : Office) (book : Book) → HoldsBook office book db → IsAnswer office book x

-- an answer is that of every book of this office that the tables hold
abbrev pub ByOwnBook : {T : Type 0} → Office → (Book → T → Type 0) → Trees → T → Type 0
ByOwnBook office IsAnswer db x = (book : Book) → HoldsBook office book db → IsAnswer book x

-- the rows of a front that is this number: the one row of its sender, or none where it is 0
abbrev pub ShowFront : ℕ → List Row → Type 0
ShowFront front rows = ((rows ≡ []) × (front ≡ 0)) ⊎ ((sender : List ℕ) × (works : ℤ) × (rows ≡ (Text sender ∷ Int (pos front) ∷ Int works ∷ []) ∷ []))

-- the rows of what a key has: one row that ends with its bytes, or none
abbrev pub ShowBody : Option (List ℕ) → List Row → Type 0
ShowBody kept rows = ((rows ≡ []) × (kept ≡ None)) ⊎ ((name : List ℕ) × (number : ℕ) × (body : List ℕ) × (rows ≡ (Text name ∷ Int (pos number) ∷ Blob body ∷ []) ∷ []) × (kept ≡ Some body))

-- the rows of whether a key has anything: one row that is the key, or none
abbrev pub ShowKey : Option (List ℕ) → List Row → Type 0
ShowKey kept rows = ((rows ≡ []) × (kept ≡ None)) ⊎ ((name : List ℕ) × (number : ℕ) × (body : List ℕ) × (rows ≡ (Text name ∷ Int (pos number) ∷ []) ∷ []) × (kept ≡ Some body))

-- the version that a row is: its transmission's number, its place there, its ordinal and its revision
abbrev pub version_shown : Row → WorkVersion
version_shown row = record { transmission = whole_number_at 3 row; place = whole_number_at 4 row; ordinal = whole_number_at 5 row; revision = whole_number_at 2 row }

-- the rows of a work's last version: one row that ends with its revision, its transmission's number, its place there and its ordinal, or none
abbrev pub ShowVersion : Option WorkVersion → List Row → Type 0
ShowVersion None rows = rows ≡ []
ShowVersion (Some v) rows =
    (sender : List ℕ) × (work : List ℕ) × (rows ≡ (Text sender ∷ Text work ∷ Int (pos v.revision) ∷ Int (pos v.transmission) ∷ Int (pos v.place) ∷ Int (pos v.ordinal) ∷ []) ∷ [])

-- the tables have these rows more in one table, and are as they were in the others
pub record Comes (table : Table) (more : List Row) (old new : Trees) : Type 0 where
  pub rows : IsPermutation (more ++ rows_in table old) (rows_in table new)
  pub others : KeepsOthers table old new

-- the tables have this row of a return more
abbrev pub ReturnComes : Row → Trees → Trees → Type 0
ReturnComes row = Comes returns (row ∷ [])

-- over layout 3 an answer says that the tables changed so
abbrev pub Changes : {X : Type 0} → (Trees → Trees → Type 0) → Result X RowFault → State → State → Type 0
Changes Change result old new = HasCleanDisk new → HasLayout old.now → OnOk result (Change old.now.trees new.now.trees × HasLayout new.now)

-- a crash leaves what it left before, or, of a connection that was open, the tables changed so
abbrev pub SurvivesChange : (Trees → Trees → Type 0) → State → State → Type 0
SurvivesChange Change old new = Survives old new (λ db. IsTrue old.is_open × (HasLayout old.now → Change old.now.trees db))

-- an answer comes from a connection that was open, is open still, and shows what it committed
abbrev pub Settles : {X : Type 0} → State → State → Result X RowFault → Type 0
Settles old new result = HasCleanDisk new → OnOk result (IsTrue old.is_open × IsTrue new.is_open × (new.now ≡ new.committed))

-- What an addition in a transaction of its own does to a connection at rest: this change, committed, with an answer of which this
-- holds, or nothing; and a crash leaves what it left before, or the tables with this change.
pub record AddsAlone {X : Type 0} (Change : Trees → Trees → Type 0) (Says : Trees → X → Type 0) (old new : State) (result : Result X RowFault) : Type 0 where
  pub changed : HasCleanDisk new → HasLayout old.now → OnOk result (Change old.now.trees new.now.trees × HasLayout new.now)
  pub says : HasCleanDisk new → HasLayout old.now → IfOk result (Says old.now.trees)
  pub settled : Settles old new result
  pub was_open : HasCleanDisk new → IsTrue new.is_open → IsTrue old.is_open
  pub neither : HasCleanDisk new → IsTrue new.is_open → OnErr result ((new.now ≡ old.committed) × (new.committed ≡ old.committed))
  pub survives : Survives old new (λ db. IsTrue old.is_open × (HasLayout old.now → Change old.now.trees db))

-- the rows of a balance that is this number: the one row of its account, or none where it is 0
abbrev pub ShowUnits : ℕ → List Row → Type 0
ShowUnits units rows = ((rows ≡ []) × (units ≡ 0)) ⊎ ((account : List ℕ) × (rows ≡ (Text account ∷ Int (pos units) ∷ []) ∷ []))

-- a party's account has a sender of 11 bytes and a number that is filled to 9
abbrev pub IsFilled : Account → Type 0
IsFilled (Ipi digits) = Unit {0}
IsFilled (Party sender number) = (length sender ≡ 11) × (length number ≡ 9)
IsFilled Unclaimed = Unit {0}

-- the rows of the pool that pays a return: they name it, and there are none where no pool pays
abbrev pub ShowPayer : Option ℕ → List Row → Type 0
ShowPayer payer rows = ((rows ≡ []) × (payer ≡ None)) ⊎ ((reporter : List ℕ) × (number : ℕ) × (pool : ℕ) × (more : List Row) × (rows ≡ (Text reporter ∷ Int (pos number) ∷ Int (pos pool) ∷ []) ∷ more) × (payer ≡ Some pool))

-- the verdict that a row has: a fault, or an ordinal from 1 and a revision
abbrev pub verdict_in : Row → Option Verdict
verdict_in row =
    if whole_number_at 3 row == 0 then (if whole_number_at 4 row == 0 then None else Some (Accepted (whole_number_at 4 row) (whole_number_at 5 row))) else Some (Rejected (whole_number_at 3 row))

-- the rows of a transmission's verdicts, each at its place
abbrev pub ShowVerdicts : List Verdict → List Row → Type 0
ShowVerdicts verdicts rows = (sender : List ℕ) × (number : ℕ) × (rows ≡ map (λ line. verdict_row sender number line.0 line.1) (enumerate_from 0 verdicts))

-- the ISRC of a credit by its text, none where that is a dash
abbrev pub credit_isrc : List ℕ → Option (List ℕ)
credit_isrc text = if bytes_eq text (45 ∷ []) then None else Some text

-- a credit by the account that its text says, where it says one
abbrev pub credit_by : Option (List ℕ) → Result Account IdFault → ℕ → Option Credit
credit_by isrc (Ok account) units = Some (record { isrc = isrc; account = account; units = units })
credit_by isrc (Err fault) units = None

-- the credit that a row has
abbrev pub credit_in : Row → Option Credit
credit_in row = credit_by (credit_isrc (text_at 2 row)) (account_of (text_at 3 row)) (whole_number_at 4 row)

-- an ISRC has twelve characters, where there is one
abbrev pub HasIsrc : Option (List ℕ) → Type 0
HasIsrc None = Unit {0}
HasIsrc (Some isrc) = length isrc ≡ 12

-- a credit whose row says it: of a recording or none, to an account of parts of their lengths
abbrev pub IsSaid : Credit → Type 0
IsSaid credit = HasIsrc credit.isrc × IsFilled credit.account

-- the rows of a pool's credits, each at its line
abbrev pub ShowCredits : List Credit → List Row → Type 0
ShowCredits credits rows = (pool : ℕ) × (rows ≡ map (λ line. credit_row pool line.0 line.1) (enumerate_from 0 credits)) × AllByRecursion IsSaid credits

-- the row of a pool that is closed, or none
abbrev pub ShowPool : Option Order → List Row → Type 0
ShowPool kept rows = ((rows ≡ []) × (kept ≡ None)) ⊎ ((pool : ℕ) × (order : Order) × (rows ≡ (Int (pos pool) ∷ Int (pos order.amount) ∷ []) ∷ []) × (kept ≡ Some order))
