-- What the fault of an opening says of the office.
use Rattle.std.proofs.Common.{◌≡◌, ◌≢◌, ◌∙◌, inl, inr, ◌<◌, length, ◌^◌, ◌&&◌, ℕ, nat_le, leb-true, arith, lit≤, Bool, true, false, List, [], ◌∷◌, Result, Ok, Err, IfErr, IfOk, IsPermutation, ap, refl, subst, sym}
use Rattle.std.specs.Result.{IsErrAnd}
use Rattle.std.proofs.lemmas.Bool.{false≢true}
use Rattle.std.proofs.Math.Logic.{∥∥₁_elim}
use Rattle.share_rules.specs.Office.{name_of}
use Rattle.std.proofs.lemmas.List.Sorted.{IsPermutation-sym}
use Rattle.share_rules.specs.declared.office.Office.{Office}
use Rattle.sqlite.specs.Effect.{Database}
use Rattle.sqlite_schema.specs.declared.schema.Schema.{Schema}
use Rattle.sqlite_trees.specs.Tree.{Trees}
use Rattle.sqlite_value.specs.Order.{Row}
use Rattle.society_rows.specs.Layout as layout
use Rattle.society_rows.specs.Reads.{Lists}
use Rattle.society_rows.specs.Layouts.{HasOlder, HasTable, number_of}
use Rattle.society_rows.specs.declared.tables.TableName.TheVariants as name
use Rattle.society_rows.specs.NewBook.{IsBare}
use Rattle.society_rows.specs.Stored.{HasLayout, rows_in}
use Rattle.society_rows.specs.declared.older.OlderLayout.{OlderLayout}
use Rattle.society_rows.specs.declared.older.OlderLayout.TheVariants as older
use Rattle.society_rows.specs.declared.fault.RowFault.{RowFault}
use Rattle.society_rows.specs.declared.fault.RowFault.TheVariants as row
use Rattle.society_book.specs.Kept.{HoldsOwnBook}
use Rattle.society_opening.specs.Older.{HoldsOlder, HoldsOne, office_row_under}
use Rattle.society_opening.specs.Reading.{reading_fault_by}
use Rattle.society_opening.specs.Opening.{IsDamagedOlder, IsOneOffice, IsOutside, TellsDatabase, TellsOffice, TellsOfficeIn, open_fault_by}
use Rattle.society_rows.proofs.lemmas.definitions.FirstTables.{first_long, has_tables}
use Rattle.society_opening.specs.declared.open_fault.OpenFault.{OpenFault}
use Rattle.society_opening.specs.declared.open_fault.OpenFault.TheVariants as fault
use Rattle.society_book.proofs.lemmas.shown.AskLemmas.{first_true, second_true}
use Rattle.society_opening.proofs.lemmas.taking.SameTables.{all_pass}
use Rattle.society_opening.proofs.lemmas.opened.Passing.{IsAside}
use Rattle.society_book.proofs.lemmas.rows_alike.RowLemmas.{one_else}

-- a failed statement says nothing of the office
pub told_failed : (n : ℕ) (o : Office) (rows : List Row) (f : RowFault) (e : OpenFault) → e ≡ reading_fault_by f → TellsOffice n o rows e
told_failed n o rows f e is = subst (TellsOffice n o rows) (sym is) (by_fault f)
  where
    by_fault : (f : RowFault) → TellsOffice n o rows (reading_fault_by f)
    by_fault row.Memory = tt
    by_fault row.Schema = tt
    by_fault row.Damaged = tt
    by_fault row.Overflow = tt
    by_fault (row.Refused error) = tt

-- nor of anything that the database has
pub outside_failed : (f : RowFault) (e : OpenFault) → e ≡ reading_fault_by f → IsOutside e
outside_failed f e is = subst IsOutside (sym is) (by_fault f)
  where
    by_fault : (f : RowFault) → IsOutside (reading_fault_by f)
    by_fault row.Memory = tt
    by_fault row.Schema = tt
    by_fault row.Damaged = tt
    by_fault row.Overflow = tt
    by_fault (row.Refused error) = tt

pub outside_told : (o : Office) (db : Database) (e : OpenFault) → IsOutside e → TellsDatabase o db e
outside_told o db fault.Memory outside = tt
outside_told o db fault.Store outside = tt
outside_told o db fault.Empty outside = absurd outside
outside_told o db fault.Schema outside = absurd outside
outside_told o db fault.OtherOffice outside = absurd outside
outside_told o db fault.Damaged outside = absurd outside
outside_told o db fault.Log outside = absurd outside

-- rows that do not pass are no empty database
abbrev is_empty : OpenFault → Bool
is_empty fault.Empty = true
is_empty _ = false

opened_there : (f : RowFault) → open_fault_by f ≢ fault.Empty
opened_there row.Memory is = absurd (false≢true (ap is_empty is))
opened_there row.Schema is = absurd (false≢true (ap is_empty is))
opened_there row.Damaged is = absurd (false≢true (ap is_empty is))
opened_there row.Overflow is = absurd (false≢true (ap is_empty is))
opened_there (row.Refused error) is = absurd (false≢true (ap is_empty is))

pub there_by : (f : RowFault) (r : Result (Unit {0}) OpenFault) → IsErrAnd r (λ e. e ≡ open_fault_by f) → IfErr r (λ e. e ≢ fault.Empty)
there_by f (Ok x) h = tt
there_by f (Err e) h = λ is. opened_there f (sym h ∙ is)

-- rows that do not pass are still this office's
pub audited_office : (n : ℕ) (o : Office) (rows : List Row) (f : RowFault) → rows ≡ office_row_under n o ∷ [] → TellsOffice n o rows (open_fault_by f)
audited_office n o rows row.Memory is = tt
audited_office n o rows row.Schema is = is
audited_office n o rows row.Damaged is = is
audited_office n o rows row.Overflow is = tt
audited_office n o rows (row.Refused error) is = tt

-- one office in any order of the rows is one office
one_likewise : (n : ℕ) (one two : List Row) → IsPermutation one two → IsOneOffice n one → IsOneOffice n two
one_likewise n [] two same one = absurd one
one_likewise n (r ∷ []) two same one = subst (IsOneOffice n) (sym (one_else r two same)) one
one_likewise n (r ∷ s ∷ rows) two same one = absurd one

-- what is said of the rows is said of them in any order
pub told_likewise : (n : ℕ) (o : Office) (one two : List Row) (e : OpenFault) → IsPermutation one two → TellsOffice n o two e → TellsOffice n o one e
told_likewise n o one two fault.Memory same err = tt
told_likewise n o one two fault.Store same err = tt
told_likewise n o one two fault.Empty same err = absurd err
told_likewise n o one two fault.Schema same err = λ is. err (one_likewise n one two same is)
told_likewise n o one two fault.OtherOffice same err =
    (one_likewise n two one (IsPermutation-sym one two same) err.0, λ is. err.1 (one_else (office_row_under n o) two (subst (λ rows. IsPermutation rows two) is same)))
told_likewise n o one two fault.Damaged same err = one_else (office_row_under n o) one (subst (λ rows. IsPermutation rows one) err (IsPermutation-sym one two same))
told_likewise n o one two fault.Log same err = absurd err

any_order : (db : Trees) (rows : List Row) (width : ℕ) → Lists layout.office (λ _. true) width db rows → IsPermutation (rows_in layout.office db) rows
any_order db rows width lists = subst (λ l. IsPermutation l rows) (all_pass (rows_in layout.office db)) lists.rows

-- what is said of the rows that are listed is said of the table's
pub here_listed : (n : ℕ) (o : Office) (db : Trees) (rows : List Row) (width : ℕ) (r : Result (Unit {0}) OpenFault) → Lists layout.office (λ _. true) width db rows → IfOk r (λ _. rows ≡ office_row_under n o ∷ [])
    → IfOk r (λ _. rows_in layout.office db ≡ office_row_under n o ∷ [])
here_listed n o db rows width (Ok x) lists is = told_likewise n o (rows_in layout.office db) rows fault.Damaged (any_order db rows width lists) is
here_listed n o db rows width (Err e) lists is = tt

pub told_listed : (n : ℕ) (o : Office) (db : Trees) (rows : List Row) (width : ℕ) (r : Result (Unit {0}) OpenFault) → Lists layout.office (λ _. true) width db rows → IfErr r (TellsOffice n o rows) → IfErr r (TellsOffice n o (rows_in layout.office db))
told_listed n o db rows width (Ok x) lists err = tt
told_listed n o db rows width (Err e) lists err = told_likewise n o (rows_in layout.office db) rows e (any_order db rows width lists) err

-- what is said of the office when rows do not pass
pub told_judged : (n : ℕ) (o : Office) (rows : List Row) (f : RowFault) (r : Result (Unit {0}) OpenFault) → rows ≡ office_row_under n o ∷ [] → IsErrAnd r (λ e. e ≡ open_fault_by f) → IfErr r (TellsOffice n o rows)
told_judged n o rows f (Ok x) is h = tt
told_judged n o rows f (Err e) is h = subst (TellsOffice n o rows) (sym h) (audited_office n o rows f is)

-- what a fault says is said where it is passed on
pub told_on : (n : ℕ) (o : Office) (rows : List Row) (f : OpenFault) (r : Result (Unit {0}) OpenFault) → TellsOffice n o rows f → IsErrAnd r (λ e. e ≡ f) → IfErr r (TellsOffice n o rows)
told_on n o rows f (Ok x) err h = tt
told_on n o rows f (Err e) err h = subst (TellsOffice n o rows) (sym h) err

-- a database is not both bare and of the layout
pub not_both : (db : Database) → IsBare db → HasLayout db → ⊥
not_both db bare has =
    let e : length db.schema.tables ≡ 0 = ap (λ (z : Schema). length z.tables) bare in
    omega (e, first_long 14 (lit≤ tt) db has, arith)

-- an older layout has the table of the office
pub has_office : (layout : OlderLayout) (db : Database) → HasOlder layout db → HasTable name.Office db
has_office older.First db was = has_tables 6 6 (lit≤ tt) db was
has_office older.Second db was = has_tables 6 12 (lit≤ tt) db was

-- nor an older layout
pub not_older : (layout : OlderLayout) (db : Database) → IsBare db → HasOlder layout db → ⊥
not_older older.First db bare has = let e : length db.schema.tables ≡ 0 = ap (λ (z : Schema). length z.tables) bare in omega (e, first_long 6 (lit≤ tt) db has, arith)
not_older older.Second db bare has = let e : length db.schema.tables ≡ 0 = ap (λ (z : Schema). length z.tables) bare in omega (e, first_long 12 (lit≤ tt) db has, arith)

-- an older layout is not layout 3
pub older_apart : (layout : OlderLayout) (db : Database) → HasOlder layout db → HasLayout db → ⊥
older_apart older.First db was has = omega (first_long 6 (lit≤ tt) db was, first_long 14 (lit≤ tt) db has, arith)
older_apart older.Second db was has = omega (first_long 12 (lit≤ tt) db was, first_long 14 (lit≤ tt) db has, arith)

-- nor is it another older one
pub older_once : (one two : OlderLayout) (db : Database) → HasOlder one db → HasOlder two db → one ≡ two
older_once older.First older.First db was also = refl
older_once older.Second older.Second db was also = refl
older_once older.First older.Second db was also = absurd (omega (first_long 6 (lit≤ tt) db was, first_long 12 (lit≤ tt) db also, arith))
older_once older.Second older.First db was also = absurd (omega (first_long 12 (lit≤ tt) db was, first_long 6 (lit≤ tt) db also, arith))

-- what is said of the office is said of a database of layout 3
pub told_of_layout : (o : Office) (db : Database) (e : OpenFault) → HasLayout db → TellsOfficeIn 3 o db e → (e ≡ fault.Damaged → ¬ HoldsOwnBook o db.trees) → TellsDatabase o db e
told_of_layout o db fault.Memory has err damaged = tt
told_of_layout o db fault.Store has err damaged = tt
told_of_layout o db fault.Empty has err damaged = absurd err
told_of_layout o db fault.Schema has err damaged = (λ bare. not_both db bare has, λ _. err, λ layout was. absurd (older_apart layout db was has))
told_of_layout o db fault.OtherOffice has err damaged = inl (has, err)
told_of_layout o db fault.Damaged has err damaged = inl (has, err, damaged refl)
told_of_layout o db fault.Log has err damaged = absurd err

-- and of one of an older layout
pub told_of_older : (o : Office) (layout : OlderLayout) (db : Database) (e : OpenFault) → HasOlder layout db → TellsOfficeIn (number_of layout) o db e → (e ≡ fault.Damaged → ¬ HoldsOlder o layout db.trees) → TellsDatabase o db e
told_of_older o layout db fault.Memory was err damaged = tt
told_of_older o layout db fault.Store was err damaged = tt
told_of_older o layout db fault.Empty was err damaged = absurd err
told_of_older o layout db fault.Schema was err damaged = (
  λ bare. not_older layout db bare was,
  λ has. absurd (older_apart layout db was has),
  λ other also. subst (λ (l : OlderLayout). TellsOfficeIn (number_of l) o db fault.Schema) (older_once layout other db was also) err,
)
told_of_older o layout db fault.OtherOffice was err damaged = inr (layout, was, err)
told_of_older o layout db fault.Damaged was err damaged = inr (layout, (was, err, damaged refl))
told_of_older o layout db fault.Log was err damaged = absurd err

nothing_alone : (x y : ⊥) → x ≡ y
nothing_alone x y = absurd x

-- what holds of tables that hold a book is refuted by none of them
refuted : (o : Office) (db : Database) → HoldsOne o db.trees → (HoldsOwnBook o db.trees → ⊥) → ⊥
refuted o db holds never = ∥∥₁_elim holds nothing_alone never

small : (n most : ℕ) → nat_le n most ≡ true → most < 2 ^ 32 → n < 2 ^ 32
small n most within few = let low = leb-true n most within in omega (low, few, arith)

-- the row of an office can be read
own_office : (n : ℕ) (o : Office) → IsOneOffice n (office_row_under n o ∷ [])
own_office n o =
    let numbers = first_true ((nat_le 1 o.society && nat_le o.society 999) && (nat_le 1 o.territory && nat_le o.territory 9999)) _ o.within_limits in
    let society = second_true (nat_le 1 o.society) (nat_le o.society 999) (first_true (nat_le 1 o.society && nat_le o.society 999) (nat_le 1 o.territory && nat_le o.territory 9999) numbers) in
    let territory = second_true (nat_le 1 o.territory) (nat_le o.territory 9999) (second_true (nat_le 1 o.society && nat_le o.society 999) (nat_le 1 o.territory && nat_le o.territory 9999) numbers) in
    (refl, (refl, (refl, ((o.society, refl, small o.society 999 society (omega arith)), ((o.territory, refl, small o.territory 9999 territory (omega arith)), ((name_of o, refl), tt))))))

-- of a database that holds a book of the office no fault is told but that memory was refused or the database failed
pub opened_else : (o : Office) (db : Database) (e : OpenFault) → HasLayout db → HoldsOne o db.trees → TellsDatabase o db e → IsOutside e
opened_else o db fault.Memory has holds err = tt
opened_else o db fault.Store has holds err = tt
opened_else o db fault.Empty has holds err = absurd (not_both db err has)
opened_else o db fault.Schema has holds err = refuted o db holds (λ h. err.1 has (subst (IsOneOffice 3) (sym h.registered) (own_office 3 o)))
opened_else o db fault.OtherOffice has holds err = elim err [
  | inl newest ↦ refuted o db holds (λ h. newest.1.1 h.registered)
  | inr older ↦ absurd (older_apart older.0 db older.1 has)
]
opened_else o db fault.Damaged has holds err = elim err [
  | inl newest ↦ refuted o db holds newest.2
  | inr older ↦ absurd (older_apart older.0 db older.1.0 has)
]
opened_else o db fault.Log has holds err = absurd err

-- so of one of an older layout that stands for tables that do
pub opened_older : (o : Office) (layout : OlderLayout) (db : Database) (e : OpenFault) → HasOlder layout db → HoldsOlder o layout db.trees → TellsDatabase o db e → IsOutside e
opened_older o layout db fault.Memory was held err = tt
opened_older o layout db fault.Store was held err = tt
opened_older o layout db fault.Empty was held err = absurd (not_older layout db err was)
opened_older o layout db fault.Schema was held err = absurd (err.2 layout was (subst (IsOneOffice (number_of layout)) (sym held.registered) (own_office (number_of layout) o)))
opened_older o layout db fault.OtherOffice was held err = elim err [
  | inl newest ↦ absurd (older_apart layout db was newest.0)
  | inr other ↦ absurd ((subst (λ (l : OlderLayout). TellsOfficeIn (number_of l) o db fault.OtherOffice) (older_once other.0 layout db other.1 was) other.2).1 held.registered)
]
opened_older o layout db fault.Damaged was held err = elim err [
  | inl newest ↦ absurd (older_apart layout db was newest.0)
  | inr other ↦ absurd ((subst (λ (l : OlderLayout). IsDamagedOlder o l db) (older_once other.0 layout db other.1.0 was) other.1).2 held)
]
opened_older o layout db fault.Log was held err = absurd err

-- a fault that is aside is not told as damage
abbrev is_damage : OpenFault → Bool
is_damage fault.Damaged = true
is_damage _ = false

pub not_damaged : (f : RowFault) → IsAside f → open_fault_by f ≡ fault.Damaged → ⊥
not_damaged row.Memory aside is = absurd (false≢true (ap is_damage is))
not_damaged row.Schema aside is = absurd aside
not_damaged row.Damaged aside is = absurd aside
not_damaged row.Overflow aside is = absurd (false≢true (ap is_damage is))
not_damaged (row.Refused error) aside is = absurd (false≢true (ap is_damage is))

-- damage is told where the rows do not hold what they should
pub damaged_so : (H : Type 0) (f : RowFault) (r : Result (Unit {0}) OpenFault) → IsErrAnd r (λ e. e ≡ open_fault_by f) → (H → IsAside f) → IfErr r (λ e. e ≡ fault.Damaged → ¬ H)
damaged_so H f (Ok x) h aside = tt
damaged_so H f (Err e) h aside = λ is holds. not_damaged f (aside holds) (sym h ∙ is)

pub undamaged : (H : Type 0) (f : OpenFault) (r : Result (Unit {0}) OpenFault) → IsErrAnd r (λ e. e ≡ f) → f ≢ fault.Damaged → IfErr r (λ e. e ≡ fault.Damaged → ¬ H)
undamaged H f (Ok x) h other = tt
undamaged H f (Err e) h other = λ is holds. other (sym h ∙ is)
