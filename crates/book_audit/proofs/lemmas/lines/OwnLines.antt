-- What tables that hold their own book have of its senders' lines.
use Rattle.std.proofs.Common.{◌≡◌, ◌∙◌, ◌+◌, ℕ, pos, Bool, true, false, cond, List, [], ◌∷◌, IsPermutation, refl, ap, sym, subst, filter, flat_map, map}
use Rattle.std.specs.List.{AllByRecursion}
use Rattle.std.proofs.lemmas.List.Sorted.{IsPermutation-sym}
use Rattle.std.proofs.lemmas.Slice.Eq.{bytes_eq-Decides}
use Rattle.cwr_files.specs.declared.transmission.Transaction.{Transaction}
use Rattle.share_rules.specs.declared.office.Office.{Office}
use Rattle.sqlite_keyed.proofs.ListLemmas.{all-append, all_weaker}
use Rattle.sqlite_trees.proofs.ListLemmas.{filter_same}
use Rattle.sqlite_trees.specs.Tree.{Trees}
use Rattle.sqlite_schema.specs.declared.schema.Table.{Table}
use Rattle.sqlite_value.specs.declared.value.Value.TheVariants.{Int, Text}
use Rattle.sqlite_value.specs.Order.{Row, column}
use Rattle.society_core.specs.Book.{Book, front, line}
use Rattle.society_rows.specs.Layout as layout
use Rattle.society_rows.specs.Stored.{rows_in}
use Rattle.society_book.specs.Columns.{HasRows, text_at, text_of}
use Rattle.society_book.specs.DerivedRows.{Telling, front_rows, is_named, knows_sender, tells_recordings, tells_verdict, tells_version, told_by, told_from, told_to_front, works_to}
use Rattle.society_book.specs.Kept.{HoldsBook}
use Rattle.society_book.proofs.lemmas.rows_alike.NamedRows.{HasName, keyed_as_named}
use Rattle.society_book.proofs.lemmas.rows_alike.RowLemmas.{all_rows}
use Rattle.works_core.specs.declared.verdict.Verdict.{Verdict}
use Rattle.works_core.specs.declared.verdict.Verdict.TheVariants.{Accepted, Rejected}
use Rattle.society_core.specs.Keys.{ascending, bytes_cmp}
use Rattle.works_core.specs.Recordings.{isrcs_of}
use Rattle.book_audit.specs.Auditing.{HasLine, HasRowsOf, of_sender}

-- the first column is this sender
abbrev pub Names : List ℕ → Row → Type 0
Names sender row = column row 0 ≡ Text sender

-- ---- each row that a sender is to have begins with it

all_flat : {X : Type 0} (P : Row → Type 0) (f : X → List Row) → ((x : X) → AllByRecursion P (f x)) → (xs : List X) → AllByRecursion P (flat_map f xs)
all_flat P f each [] = tt
all_flat P f each (x ∷ xs) = all-append P (f x) (flat_map f xs) (each x) (all_flat P f each xs)

from_named : (tells : Telling) → ((s : List ℕ) (n p : ℕ) (t : Transaction) (v : Verdict) → AllByRecursion (Names s) (tells s n p t v)) → (s : List ℕ) (n p : ℕ) (ts : List Transaction) (vs : List Verdict) → AllByRecursion (Names s) (told_from tells s n p ts vs)
from_named tells each s n p [] vs = tt
from_named tells each s n p (t ∷ ts) [] = tt
from_named tells each s n p (t ∷ ts) (v ∷ vs) = all-append (Names s) (tells s n p t v) _ (each s n p t v) (from_named tells each s n (p + 1) ts vs)

told_named : (tells : Telling) → ((s : List ℕ) (n p : ℕ) (t : Transaction) (v : Verdict) → AllByRecursion (Names s) (tells s n p t v)) → (o : Office) (b : Book) (s : List ℕ) → AllByRecursion (Names s) (told_to_front tells o b s)
told_named tells each o b s = all_flat (Names s) (told_by tells o b s) (λ n. from_named tells each s n 0 _ _) (line b s)

pub verdicts_named : (o : Office) (b : Book) (s : List ℕ) → AllByRecursion (Names s) (told_to_front tells_verdict o b s)
verdicts_named = told_named tells_verdict each
  where
    each : (s : List ℕ) (n p : ℕ) (t : Transaction) (v : Verdict) → AllByRecursion (Names s) (tells_verdict s n p t v)
    each s n p t (Rejected fault) = (refl, tt)
    each s n p t (Accepted ordinal revision) = (refl, tt)

pub versions_named : (o : Office) (b : Book) (s : List ℕ) → AllByRecursion (Names s) (told_to_front tells_version o b s)
versions_named = told_named tells_version each
  where
    each : (s : List ℕ) (n p : ℕ) (t : Transaction) (v : Verdict) → AllByRecursion (Names s) (tells_version s n p t v)
    each s n p t (Rejected fault) = tt
    each s n p t (Accepted ordinal revision) = (refl, tt)

pub recordings_named : (o : Office) (b : Book) (s : List ℕ) → AllByRecursion (Names s) (told_to_front tells_recordings o b s)
recordings_named = told_named tells_recordings each
  where
    all : (s work : List ℕ) (revision : ℕ) (isrcs : List (List ℕ)) → AllByRecursion (Names s) (map (λ isrc. Text s ∷ Text work ∷ Int (pos revision) ∷ Text isrc ∷ []) isrcs)
    all s work revision [] = tt
    all s work revision (isrc ∷ isrcs) = (refl, all s work revision isrcs)

    each : (s : List ℕ) (n p : ℕ) (t : Transaction) (v : Verdict) → AllByRecursion (Names s) (tells_recordings s n p t v)
    each s n p t (Rejected fault) = tt
    each s n p t (Accepted ordinal revision) = all s _ revision (ascending bytes_cmp (isrcs_of t))

pub front_named : (o : Office) (b : Book) (s : List ℕ) → AllByRecursion (Names s) (front_rows o b s)
front_named o b s = elim (knows_sender b s) as (λ x. AllByRecursion (Names s) (cond x ((Text s ∷ Int (pos (front b s)) ∷ Int (pos (works_to o b s)) ∷ []) ∷ []) [])) [ true ↦ (refl, tt) | false ↦ tt ]

-- ---- a table that has what is expected of each sender

named_itself : (s : List ℕ) (r : Row) → Names s r → HasName r
named_itself s r is = is ∙ ap Text (sym (ap text_of is))

pub rows_of : (table : Table) (expected : List ℕ → List Row) (db : Trees) (s : List ℕ) → ((q : List ℕ) → AllByRecursion (Names q) (expected q)) → HasRows is_named expected (rows_in table db) → HasRowsOf table s (expected s) db
rows_of table expected db s named has =
    let texts : AllByRecursion HasName (rows_in table db) =
    all_rows is_named (text_at 0) (λ r. (bytes_eq-Decides (text_at 0 r) (text_at 0 r)).1 refl) HasName expected (rows_in table db) has (λ q. all_weaker (Names q) HasName (named_itself q) (expected q) (named q)) in
    let same : filter (of_sender s) (rows_in table db) ≡ filter (is_named s) (rows_in table db) = filter_same (of_sender s) (is_named s) (rows_in table db) (keyed_as_named s (rows_in table db) texts) in
    subst (λ (l : List Row). IsPermutation l (expected s)) (sym same) (IsPermutation-sym (expected s) (filter (is_named s) (rows_in table db)) (has s))

-- tables that hold a book have what is derived of the line of each sender that it knows
pub own_line : (o : Office) (b : Book) (db : Trees) (s : List ℕ) → HoldsBook o b db → knows_sender b s ≡ true → HasLine o b s db
own_line o b db s holds known = record {
  fronts = subst (λ (x : Bool). HasRowsOf layout.fronts s (cond x ((Text s ∷ Int (pos (front b s)) ∷ Int (pos (works_to o b s)) ∷ []) ∷ []) []) db) known (rows_of layout.fronts (front_rows o b) db s (front_named o b) holds.derived.fronts);
  verdicts = rows_of layout.verdicts (told_to_front tells_verdict o b) db s (verdicts_named o b) holds.derived.verdicts;
  versions = rows_of layout.versions (told_to_front tells_version o b) db s (versions_named o b) holds.derived.versions;
  recordings = rows_of layout.recordings (told_to_front tells_recordings o b) db s (recordings_named o b) holds.derived.recordings;
}
