-- What an opening of tables that are there already finds, and what it finds of a store that a crash left.
use Rattle.std.specs.Prelude.{◌≡◌, ◌⊎◌, ◌&&◌, IsTrue}
use Rattle.share_rules.specs.declared.office.Office.{Office}
use Rattle.sqlite.specs.Effect.{Database}
use Rattle.sqlite.specs.State as connection
use Rattle.society_core.specs.State as store
use Rattle.society_rows.specs.Effects.{MayFail}
use Rattle.society_rows.specs.Layouts.{HasOlder}
use Rattle.society_rows.specs.Stored.{HasLayout}
use Rattle.society_rows.specs.declared.older.OlderLayout.{OlderLayout}
use Rattle.society_tables.specs.Laws.{IsLeftBy}
use Rattle.society_opening.specs.Older.{HoldsOlder, HoldsOne, IsTakenOver}
use Rattle.society_opening.specs.Opening.{IsLeftTaken, IsOutside, ShowsAs}
use Rattle.society_opening.specs.declared.open_fault.OpenFault.{OpenFault}
use Rattle.society_opening.specs.declared.open_fault.OpenFault.TheVariants as open_fault

-- said where the disk told the truth and the connection was open when it was handed in
abbrev pub WhenOpen : connection.State → connection.State → Type 0 → Type 0
WhenOpen old new P = connection.HasCleanDisk new → IsTrue old.is_open → P

-- the database has layout 3, and holds a sound book of the office with exactly what is derived from it
abbrev pub HoldsOffice : Office → Database → Type 0
HoldsOffice office db = HasLayout db × HoldsOne office db.trees

-- what was committed has layout 3 and holds a sound book of the office, and is shown as it was
abbrev pub FindsNewest : Office → connection.State → connection.State → Type 0
FindsNewest office old new = HasLayout old.committed × HoldsOne office old.committed.trees × ShowsAs old.committed new

-- or it was of an older layout, and is taken over
abbrev pub FindsOffice : Office → connection.State → connection.State → Type 0
FindsOffice office old new =
    WhenOpen old new (FindsNewest office old new ⊎ ((layout : OlderLayout) × HasOlder layout old.committed × IsTakenOver office layout old.committed new))

-- the database holds a sound book of the office: its tables of layout 3 do, or its older ones stand for some that do
abbrev pub IsSoundIn : Office → Database → Type 0
IsSoundIn office db = (HasLayout db × HoldsOne office db.trees) ⊎ ((layout : OlderLayout) × HasOlder layout db × ∥ HoldsOlder office layout db.trees ∥₁)

-- what was committed does, and is shown as it was
abbrev pub FindsSoundly : Office → connection.State → connection.State → Type 0
FindsSoundly office old new = WhenOpen old new (IsSoundIn office old.committed × ShowsAs old.committed new)

-- of tables that hold a sound book of the office, this fault says only that memory was refused or the database failed
abbrev pub SparesOffice : Office → Database → OpenFault → Type 0
SparesOffice office db fault = HasLayout db → HoldsOne office db.trees → IsOutside fault

-- so it says of what was committed, where the connection was open
abbrev pub SparesCommitted : Office → connection.State → connection.State → OpenFault → Type 0
SparesCommitted office old new fault = WhenOpen old new (SparesOffice office old.committed fault)

-- of older tables that stand for such tables it says no more either
abbrev pub SparesOlder : Office → connection.State → connection.State → OpenFault → Type 0
SparesOlder office old new fault =
    WhenOpen old new ((layout : OlderLayout) → HasOlder layout old.committed → HoldsOlder office layout old.committed.trees → IsOutside fault)

-- where tables are there a crash leaves what it left before, or the whole of what older ones become
abbrev pub SurvivesTaking : Office → connection.State → connection.State → Type 0
SurvivesTaking office old new = connection.Survives old new (IsLeftTaken office old.now)

-- the store's fault comes only where the medium may have failed
abbrev pub FailsByStore : OpenFault → connection.State → connection.State → Type 0
FailsByStore fault old new = WhenOpen old new (fault ≡ open_fault.Store → MayFail old new)

-- said of what a crash may leave of a clean store over this connection
abbrev pub AfterCrash : connection.State → connection.State → Type 0 → Type 0
AfterCrash s found P = IsTrue (s.is_clean && s.is_open) → IsLeftBy s found → P

-- while it is clean, a store shows the book of another
abbrev pub FindsBook : store.State → store.State → Type 0
FindsBook old new = IsTrue new.is_clean → new.book ≡ old.book

-- while it is clean, a store shows a book that a crash may leave of another
abbrev pub FindsLeft : store.State → store.State → Type 0
FindsLeft old new = IsTrue new.is_clean → old.left new.book

-- said of what any crash leaves of a store over this connection, where that has layout 3
abbrev pub AfterAnyCrash : connection.State → connection.State → Type 0 → Type 0
AfterAnyCrash s found P = IsLeftBy s found → HasLayout found.committed → P
