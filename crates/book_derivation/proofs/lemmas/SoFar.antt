-- What tables have of senders' lines while these are written, one after another.
use Rattle.book_audit.specs.Entries.{is_text}
use Rattle.std.proofs.Common.{◌≡◌, ◌∙◌, ◌++◌, ◌||◌, ℕ, pos, Bool, true, false, cond, List, [], ◌∷◌, refl, ap, ap₂, sym, subst, arith, bytes_eq, filter, map, IsPermutation}
use Rattle.std.specs.List.{AllByRecursion}
use Rattle.std.proofs.Math.Bool.{or-false}
use Rattle.std.proofs.lemmas.List.{append-nil}
use Rattle.std.proofs.lemmas.List.Sorted.{IsPermutation-refl, IsPermutation-trans}
use Rattle.std.proofs.lemmas.Slice.Eq.{bytes_eq-Decides}
use Rattle.share_rules.specs.declared.office.Office.{Office}
use Rattle.sqlite_keyed.proofs.ListLemmas.{IsPermutation-filter, all_of, all_weaker}
use Rattle.sqlite_schema.specs.declared.schema.Table.{Table}
use Rattle.sqlite_trees.specs.Tree.{Trees}
use Rattle.sqlite_value.specs.declared.value.Value.{Value}
use Rattle.sqlite_value.specs.declared.value.Value.TheVariants.{Int, Text}
use Rattle.sqlite_value.specs.Order.{Row, column}
use Rattle.society_core.specs.Book.{AreOrderly, Book, front, line}
use Rattle.society_rows.specs.Layout as layout
use Rattle.society_rows.specs.Layout.{all_tables, written_out}
use Rattle.society_rows.specs.Stored.{AreNumbered, put_over, rows_in, values_of}
use Rattle.society_book.specs.Columns.{HasRows, text_at, text_of}
use Rattle.society_book.specs.DerivedRows.{is_named, tells_recordings, tells_verdict, tells_version, told_to_front, works_to}
use Rattle.society_book.specs.RightRows.{KeepsUnsound}
use Rattle.society_arrivals.specs.Runs.{is_key_among}
use Rattle.society_arrivals.specs.LineTables.{KeepsUnlined}
use Rattle.society_book.specs.Sources.{KeepsSent}
use Rattle.society_arrivals.proofs.lemmas.RunTables.{AreOf, names_recordings, names_verdict, names_version, of_one, told_named}
use Rattle.society_book.proofs.lemmas.rows_alike.KeptTables.{rows_kept, same_permutation, both_of}
use Rattle.society_arrivals.proofs.lemmas.RunWrites.{KeptOfLines}
use Rattle.society_book.proofs.lemmas.rows_alike.NamedRows.{HasName}
use Rattle.society_book.proofs.lemmas.rows_alike.PutRows.{others_left}
use Rattle.society_book.proofs.lemmas.rows_alike.RowLemmas.{all_rows, more_rows}
use Rattle.book_audit.specs.Auditing.{AreNamed, AreSenders, HasLine, HasRowsOf}
use Rattle.book_audit.proofs.lemmas.lines.OwnLines.{Names, recordings_named, rows_of, verdicts_named, versions_named}
use Rattle.book_derivation.specs.Deriving.{HasNoLines}
use Rattle.book_derivation.specs.Lines.{HoldsLinesOf, PutsOwnLine, WritesLine, WritesLines}

-- what a table is to have of a sender, where those that are done have theirs
abbrev pub so_far : List (List ℕ) → (List ℕ → List Row) → List ℕ → List Row
so_far done expected s = cond (is_key_among done s) (expected s) []

-- ---- nothing yet

none_yet : (expected : List ℕ → List Row) (table : Table) (db : Trees) → db table.tree ≡ [] → HasRows is_named (so_far [] expected) (rows_in table db)
none_yet expected table db none t = subst (λ (l : List Row). IsPermutation [] (filter (is_named t) l)) (sym (ap (map (values_of table)) none)) (IsPermutation-refl [])

-- ---- one sender more

module _ (done then : List (List ℕ)) (s : List ℕ) (more : (t : List ℕ) → is_key_among then t ≡ (is_key_among done t || bytes_eq s t)) (fresh : is_key_among done s ≡ false) where
  gone : (t : List ℕ) → bytes_eq s t ≡ true → is_key_among done t ≡ false
  gone t is = subst (λ (q : List ℕ). is_key_among done q ≡ false) ((bytes_eq-Decides s t).0 is) fresh

  itself : (expected : List ℕ → List Row) (t : List ℕ) → bytes_eq s t ≡ true → so_far then expected t ≡ expected t
  itself expected t is = ap (λ (a : Bool). cond a (expected t) []) (more t ∙ ap₂ (λ (a b : Bool). a || b) (gone t is) is)

  nothing : (expected : List ℕ → List Row) (t : List ℕ) → bytes_eq s t ≡ true → so_far done expected t ≡ []
  nothing expected t is = ap (λ (a : Bool). cond a (expected t) []) (gone t is)

  other : (expected : List ℕ → List Row) (t : List ℕ) → bytes_eq s t ≡ false → so_far then expected t ≡ so_far done expected t
  other expected t is = ap (λ (a : Bool). cond a (expected t) []) (more t ∙ ap (λ (b : Bool). is_key_among done t || b) is ∙ or-false (is_key_among done t))

  -- the rows of a sender that are added
  added : (expected : List ℕ → List Row) → AreOf s (expected s) → (old new : List Row) → HasRows is_named (so_far done expected) old → IsPermutation (expected s ++ old) new → HasRows is_named (so_far then expected) new
  added expected named old new has came = more_rows is_named (so_far done expected) (so_far then expected) (expected s) old new has (λ t. by_case t (bytes_eq s t) refl (of_one s (expected s) named t)) came
    where
      by_case : (t : List ℕ) (x : Bool) → bytes_eq s t ≡ x → filter (is_named t) (expected s) ≡ cond (bytes_eq s t) (expected s) []
          → IsPermutation (so_far then expected t) (filter (is_named t) (expected s) ++ so_far done expected t)
      by_case t true is left =
          let its : filter (is_named t) (expected s) ≡ expected t = left ∙ ap (λ (x : Bool). cond x (expected s) []) is ∙ ap expected ((bytes_eq-Decides s t).0 is) in
          same_permutation (itself expected t is ∙ sym (ap₂ (λ (a b : List Row). a ++ b) its (nothing expected t is) ∙ append-nil (expected t)))
      by_case t false is left =
          let its : filter (is_named t) (expected s) ≡ [] = left ∙ ap (λ (x : Bool). cond x (expected s) []) is in
          same_permutation (other expected t is ∙ sym (ap (λ (l : List Row). l ++ so_far done expected t) its))

  -- its one row that is put
  put_in : (columns : List ℕ → List Value) (old new : List Row) → HasRows is_named (so_far done (λ q. (Text q ∷ columns q) ∷ [])) old → IsPermutation (put_over (Text s ∷ columns s) old) new → HasRows is_named (so_far then (λ q. (Text q ∷ columns q) ∷ [])) new
  put_in columns old new has put t =
      IsPermutation-trans (so_far then expected t) (filter (is_named t) (put_over (Text s ∷ columns s) old)) (filter (is_named t) new)
      (by_case (bytes_eq s t) refl (others_left s (columns s) old texts t))
      (IsPermutation-filter (is_named t) (put_over (Text s ∷ columns s) old) new put)
    where
      expected : List ℕ → List Row
      expected q = (Text q ∷ columns q) ∷ []

      named : (q : List ℕ) → AllByRecursion HasName (so_far done expected q)
      named q = elim (is_key_among done q) as (λ x. AllByRecursion HasName (cond x (expected q) [])) [ true ↦ (refl, tt) | false ↦ tt ]

      texts : AllByRecursion HasName old
      texts = all_rows is_named (text_at 0) (λ r. (bytes_eq-Decides (text_at 0 r) (text_at 0 r)).1 refl) HasName (so_far done expected) old has named

      by_case : (x : Bool) → bytes_eq s t ≡ x → filter (is_named t) (put_over (Text s ∷ columns s) old) ≡ cond (bytes_eq s t) ((Text s ∷ columns s) ∷ []) (filter (is_named t) old)
          → IsPermutation (so_far then expected t) (filter (is_named t) (put_over (Text s ∷ columns s) old))
      by_case true is left =
          same_permutation (itself expected t is ∙ sym (left ∙ ap (λ (x : Bool). cond x (expected s) (filter (is_named t) old)) is ∙ ap expected ((bytes_eq-Decides s t).0 is)))
      by_case false is left =
          subst (λ (l : List Row). IsPermutation l (filter (is_named t) (put_over (Text s ∷ columns s) old))) (sym (other expected t is))
          (subst (IsPermutation (so_far done expected t)) (sym (left ∙ ap (λ (x : Bool). cond x (expected s) (filter (is_named t) old)) is)) (has t))

-- ---- the four tables

-- the row of a sender's front, behind the sender
abbrev pub front_columns : Office → Book → List ℕ → List Value
front_columns office book s = Int (pos (front book s)) ∷ Int (pos (works_to office book s)) ∷ []

-- what is derived of the lines of those that are done, and of nobody else
pub record HasSoFar (office : Office) (book : Book) (done : List (List ℕ)) (db : Trees) : Type 0 where
  pub fronts : HasRows is_named (so_far done (λ q. (Text q ∷ front_columns office book q) ∷ [])) (rows_in layout.fronts db)
  pub verdicts : HasRows is_named (so_far done (told_to_front tells_verdict office book)) (rows_in layout.verdicts db)
  pub versions : HasRows is_named (so_far done (told_to_front tells_version office book)) (rows_in layout.versions db)
  pub recordings : HasRows is_named (so_far done (told_to_front tells_recordings office book)) (rows_in layout.recordings db)
  pub numbered : AreNumbered layout.fronts db

has_none : (o : Office) (b : Book) (db : Trees) → HasNoLines db → HasSoFar o b [] db
has_none o b db none = record {
  fronts = none_yet (λ q. (Text q ∷ front_columns o b q) ∷ []) layout.fronts db none.0;
  verdicts = none_yet (told_to_front tells_verdict o b) layout.verdicts db none.1.0;
  versions = none_yet (told_to_front tells_version o b) layout.versions db none.1.1.0;
  recordings = none_yet (told_to_front tells_recordings o b) layout.recordings db none.1.1.1.0;
  numbered = subst (AllByRecursion _) (sym none.0) tt;
}

has_more : (o : Office) (b : Book) (done then : List (List ℕ)) (s : List ℕ) → ((t : List ℕ) → is_key_among then t ≡ (is_key_among done t || bytes_eq s t)) → is_key_among done s ≡ false
    → (old new : Trees) → HasSoFar o b done old → PutsOwnLine o b s old new → HasSoFar o b then new
has_more o b done then s more fresh old new has puts = record {
  fronts = put_in done then s more fresh (front_columns o b) (rows_in layout.fronts old) (rows_in layout.fronts new) has.fronts (puts.put has.numbered);
  verdicts = added done then s more fresh (told_to_front tells_verdict o b) (told_named tells_verdict names_verdict o b s (line b s)) (rows_in layout.verdicts old) (rows_in layout.verdicts new) has.verdicts puts.verdicts;
  versions = added done then s more fresh (told_to_front tells_version o b) (told_named tells_version names_version o b s (line b s)) (rows_in layout.versions old) (rows_in layout.versions new) has.versions puts.versions;
  recordings = added done then s more fresh (told_to_front tells_recordings o b) (told_named tells_recordings names_recordings o b s (line b s)) (rows_in layout.recordings old) (rows_in layout.recordings new) has.recordings puts.recordings;
  numbered = puts.numbered has.numbered;
}

-- ---- where all are done

is_or_right : (a b : Bool) → b ≡ true → (a || b) ≡ true
is_or_right true b h = refl
is_or_right false b h = h

-- what holds of those that are among some holds of each of them
all_among : (P : List ℕ → Type 0) (xs : List (List ℕ)) → ((s : List ℕ) → is_key_among xs s ≡ true → P s) → AllByRecursion P xs
all_among P [] each = tt
all_among P (x ∷ xs) each =
    (each x (ap (λ (a : Bool). a || is_key_among xs x) ((bytes_eq-Decides x x).1 refl)), all_among P xs (λ s h. each s (is_or_right (bytes_eq x s) (is_key_among xs s) h)))

module _ (senders : List (List ℕ)) (expected : List ℕ → List Row) (named : (q : List ℕ) → AllByRecursion (Names q) (expected q)) (table : Table) (db : Trees) (has : HasRows is_named (so_far senders expected) (rows_in table db)) where
  named_so_far : (q : List ℕ) → AllByRecursion (Names q) (so_far senders expected q)
  named_so_far q = by_case (is_key_among senders q)
    where
      by_case : (x : Bool) → AllByRecursion (Names q) (cond x (expected q) [])
      by_case true = named q
      by_case false = tt

  rows_for : (s : List ℕ) → is_key_among senders s ≡ true → HasRowsOf table s (expected s) db
  rows_for s among = subst (λ (x : Bool). HasRowsOf table s (cond x (expected s) []) db) among (rows_of table (so_far senders expected) db s named_so_far has)

  begins : (q : List ℕ) → is_key_among senders q ≡ true → (r : Row) → Names q r → (is_text (column r 0) ≡ true) × (is_key_among senders (text_at 0 r) ≡ true)
  begins q among r is = (ap is_text is, ap (λ v. is_key_among senders (text_of v)) is ∙ among)

  owned : AreNamed senders (rows_in table db)
  owned = all_rows is_named (text_at 0) (λ r. (bytes_eq-Decides (text_at 0 r) (text_at 0 r)).1 refl) (λ row. (is_text (column row 0) ≡ true) × (is_key_among senders (text_at 0 row) ≡ true)) (so_far senders expected) (rows_in table db) has (λ q. by_case q (is_key_among senders q) refl)
    where
      by_case : (q : List ℕ) (x : Bool) → is_key_among senders q ≡ x → AllByRecursion (λ row. (is_text (column row 0) ≡ true) × (is_key_among senders (text_at 0 row) ≡ true)) (cond x (expected q) [])
      by_case q true is = all_weaker (Names q) (λ row. (is_text (column row 0) ≡ true) × (is_key_among senders (text_at 0 row) ≡ true)) (begins q is) (expected q) (named q)
      by_case q false is = tt

has_all : (o : Office) (b : Book) (senders : List (List ℕ)) (db : Trees) → HasSoFar o b senders db → HoldsLinesOf o b senders db
has_all o b senders db has = record {
  lines = all_among (λ s. HasLine o b s db) senders (λ s among. record {
    fronts = rows_for senders fronts_of front_names layout.fronts db has.fronts s among;
    verdicts = rows_for senders (told_to_front tells_verdict o b) (verdicts_named o b) layout.verdicts db has.verdicts s among;
    versions = rows_for senders (told_to_front tells_version o b) (versions_named o b) layout.versions db has.versions s among;
    recordings = rows_for senders (told_to_front tells_recordings o b) (recordings_named o b) layout.recordings db has.recordings s among;
  });
  owners = record {
    fronts = owned senders fronts_of front_names layout.fronts db has.fronts;
    verdicts = owned senders (told_to_front tells_verdict o b) (verdicts_named o b) layout.verdicts db has.verdicts;
    versions = owned senders (told_to_front tells_version o b) (versions_named o b) layout.versions db has.versions;
    recordings = owned senders (told_to_front tells_recordings o b) (recordings_named o b) layout.recordings db has.recordings;
  };
  numbered = has.numbered;
}
  where
    fronts_of : List ℕ → List Row
    fronts_of q = (Text q ∷ front_columns o b q) ∷ []

    front_names : (q : List ℕ) → AllByRecursion (Names q) (fronts_of q)
    front_names q = (refl, tt)

-- ---- what was sent stays

pub sent_kept : (b : Book) (old new : Trees) → KeepsUnlined old new → KeepsSent b old → KeepsSent b new
unfolding all_tables written_out
sent_kept b old new keeps sent = record {
  transmissions = subst (HasRows _ _) (sym (rows_kept layout.transmissions old new (keeps.1.0 (λ e. omega (arith, e)) (λ e. omega (arith, e)) (λ e. omega (arith, e)) (λ e. omega (arith, e))))) sent.transmissions;
  ends = subst (HasRows _ _) (sym (rows_kept layout.segment_ends old new (keeps.1.1.1.1.1.1.1.1.1.1.1.1.0 (λ e. omega (arith, e)) (λ e. omega (arith, e)) (λ e. omega (arith, e)) (λ e. omega (arith, e))))) sent.ends;
}

-- what is that of no sound book stays so
pub unsound_kept : (old mid : Trees) → KeepsUnlined old mid → KeepsUnsound mid → KeepsUnsound old
unsound_kept old mid keeps unsound b sound sent = unsound b sound (sent_kept b old mid keeps sent)

unlined_same : (db : Trees) → KeepsUnlined db db
unlined_same db = all_of (KeptOfLines db db) (λ t a b c d. refl) all_tables

unlined_on : (old mid new : Trees) → KeepsUnlined old mid → KeepsUnlined mid new → KeepsUnlined old new
unlined_on old mid new first second = both_of (KeptOfLines old mid) (KeptOfLines mid new) (KeptOfLines old new) all_tables (λ t p q a b c d. q a b c d ∙ p a b c d) first second

-- ---- what is written of those that are done, where all the senders are these

pub record WritesSome (office : Office) (all done : List (List ℕ)) (old new : Trees) : Type 0 where
  pub others : KeepsUnlined old new
  pub has : (book : Book) → KeepsSent book old → ((s : List ℕ) → AreOrderly book.transmissions book.ends s) → AreSenders book all → HasNoLines old → HasSoFar office book done new

pub writes_none : (o : Office) (all : List (List ℕ)) (db : Trees) → WritesSome o all [] db db
writes_none o all db = record { others = unlined_same db; has = λ b sent orders senders none. has_none o b db none }

pub writes_more : (o : Office) (all done then : List (List ℕ)) (s : List ℕ) → ((t : List ℕ) → is_key_among then t ≡ (is_key_among done t || bytes_eq s t)) → ((b : Book) → AreSenders b all → is_key_among done s ≡ false)
    → (old mid new : Trees) → WritesSome o all done old mid → WritesLine o s mid new → WritesSome o all then old new
writes_more o all done then s more fresh old mid new first second = record {
  others = unlined_on old mid new first.others second.others;
  has = λ b sent orders senders none. has_more o b done then s more (fresh b senders) mid new (first.has b sent orders senders none) (second.puts b (sent_kept b old mid first.others sent) (orders s));
}

pub writes_all : (o : Office) (all : List (List ℕ)) (old new : Trees) → WritesSome o all all old new → WritesLines o all old new
writes_all o all old new some = record { others = some.others; holds = λ b sent orders senders none. has_all o b all new (some.has b sent orders senders none) }
