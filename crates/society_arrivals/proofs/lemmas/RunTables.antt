-- The tables once a transmission has come, or an end of a segment, with which its sender's line goes on or stays: they hold the book with it.
use Rattle.std.proofs.Common.{◌≡◌, ◌≢◌, ◌∙◌, ◌+◌, ◌||◌, ◌++◌, ℕ, pos, Bool, true, false, cond, List, [], ◌∷◌, Option, Some, None, refl, ap, ap₂, sym, subst, filter, bytes_eq, unwrap_or, IsPermutation}
use Rattle.std.specs.List.{AllByRecursion, flat_map}
use Rattle.std.proofs.lemmas.Bool.{false≢true}
use Rattle.std.proofs.lemmas.List.Sorted.{IsPermutation-append_comm}
use Rattle.std.proofs.lemmas.Slice.Eq.{bytes_eq-Decides}
use Rattle.cwr_files.specs.Contents.{transactions_of, transmission_in}
use Rattle.cwr_files.specs.declared.transmission.Transaction.{Transaction}
use Rattle.share_rules.specs.declared.office.Office.{Office}
use Rattle.sqlite_keyed.proofs.ListLemmas.{all-append, all-flat_map, all-map, all_of, all_weaker, filter_all, filter_none}
use Rattle.sqlite_trees.specs.Tree.{Trees, rowid}
use Rattle.sqlite_trees.specs.View.{is_int}
use Rattle.sqlite_value.specs.declared.value.Value.TheVariants.{Int, Text}
use Rattle.sqlite_value.specs.Order.{Row}
use Rattle.std.specs.FinMap as finite
use Rattle.sender_segments.specs.Ways.{AreRight, End}
use Rattle.society_core.proofs.lemmas.Books.{sound_order}
use Rattle.society_core.proofs.lemmas.KeyOrders.{segments_total}
use Rattle.society_core.proofs.lemmas.GrowthLemmas.{front_stays, growth_pays, line_stays}
use Rattle.society_core.specs.Book.{Book, IsSound, body_at, end_at, ends_of, front, transmissions_to, verdicts_in, with_end, with_transmission, Ends, Transmissions}
use Rattle.society_core.specs.Growth.{GoesOn}
use Rattle.society_core.specs.Keys.{ascending, bytes_cmp, segment_key, transmission_key}
use Rattle.society_core.specs.Orders.{same_transmission_key}
use Rattle.society_core.specs.declared.segment_key.SegmentKey.{SegmentKey}
use Rattle.society_core.specs.declared.transmission_key.TransmissionKey.{TransmissionKey}
use Rattle.society_rows.specs.Layout as layout
use Rattle.society_rows.specs.Layout.{all_tables, written_out}
use Rattle.society_rows.specs.Stored.{AreNumbered, KeepsOthers, put_over, rows_in}
use Rattle.society_book.specs.BookRows.{AreOfBook, end_row, end_rows, is_end_row, is_transmission_row, row_of_some, same_segment_key, transmission_row, transmission_rows}
use Rattle.society_book.specs.Columns.{HasRows, text_at}
use Rattle.society_book.specs.DerivedRows.{AreDerived, Telling, balance_rows, credit_rows, front_rows, knows_sender, is_named, tells_recordings, tells_verdict, tells_version, told_by, told_from, told_to_front, work_text, works_to}
use Rattle.society_book.specs.Kept.{HoldsBook, office_row}
use Rattle.society_arrivals.specs.LineTables.{PutsLine}
use Rattle.society_book.proofs.lemmas.shown.FrontRows.{fronts_named}
use Rattle.society_arrivals.proofs.lemmas.Growth.{told_grows, told_stays}
use Rattle.society_arrivals.proofs.lemmas.HeldAdds.{same_key_is, told_after}
use Rattle.society_book.proofs.lemmas.rows_alike.BookLemmas.{end_key_back, segments_tie}
use Rattle.society_book.proofs.lemmas.rows_alike.EndRows.{same_segment_is}
use Rattle.society_book.proofs.lemmas.money.PoolsAlike.{balances_still, credits_still}
use Rattle.society_book.proofs.lemmas.rows_alike.PutRows.{put_holds}
use Rattle.society_book.proofs.lemmas.rows_alike.RowLemmas.{more_rows, same_rows}
use Rattle.works_core.specs.Line.{NumberedTransmission, line_of}
use Rattle.works_core.specs.Recordings.{isrcs_of}
use Rattle.works_core.specs.Verdicts.{works_in}
use Rattle.works_core.specs.Versions.{judged_of, placed_line}
use Rattle.works_core.specs.declared.verdict.Verdict.{Verdict}
use Rattle.works_core.specs.declared.verdict.Verdict.TheVariants.{Accepted, Rejected}
use Rattle.society_book.proofs.lemmas.rows_alike.KeptTables.{KeptBut, kept_but, rows_kept, same_permutation}
use Rattle.sqlite_schema.specs.declared.schema.Table.{Table}

-- the row of a sender's front
abbrev pub front_row : Office → Book → List ℕ → Row
front_row office book sender = Text sender ∷ Int (pos (front book sender)) ∷ Int (pos (works_to office book sender)) ∷ []

-- rows that are all named after one sender
abbrev pub AreOf : List ℕ → List Row → Type 0
AreOf s rows = AllByRecursion (λ row. text_at 0 row ≡ s) rows

-- a way of telling whose rows are named after their sender
abbrev pub Names : Telling → Type 0
Names tells = (s : List ℕ) (n p : ℕ) (x : Transaction) (v : Verdict) → AreOf s (tells s n p x v)

from_named : (tells : Telling) → Names tells → (s : List ℕ) (n p : ℕ) (xs : List Transaction) (vs : List Verdict) → AreOf s (told_from tells s n p xs vs)
from_named tells names s n p [] vs = tt
from_named tells names s n p (x ∷ xs) [] = tt
from_named tells names s n p (x ∷ xs) (v ∷ vs) = all-append (λ row. text_at 0 row ≡ s) (tells s n p x v) (told_from tells s n (p + 1) xs vs) (names s n p x v) (from_named tells names s n (p + 1) xs vs)

pub told_named : (tells : Telling) → Names tells → (o : Office) (b : Book) (s : List ℕ) (ks : List ℕ) → AreOf s (flat_map (told_by tells o b s) ks)
told_named tells names o b s ks =
    all-flat_map (λ row. text_at 0 row ≡ s) (told_by tells o b s) ks
    (all_of (λ k. AreOf s (told_by tells o b s k)) (λ k. from_named tells names s k 0 (transactions_of (transmission_in (unwrap_or (body_at b s k) []))) (verdicts_in o b s k)) ks)

-- of rows that are all named after one sender another has none
pub of_one : (s : List ℕ) (rows : List Row) → AreOf s rows → (t : List ℕ) → filter (is_named t) rows ≡ cond (bytes_eq s t) rows []
of_one s rows all t = by_case (bytes_eq s t) refl
  where
    by_case : (x : Bool) → bytes_eq s t ≡ x → filter (is_named t) rows ≡ cond x rows []
    by_case true is = filter_all (is_named t) rows (all_weaker (λ row. text_at 0 row ≡ s) (λ row. is_named t row ≡ true) (λ row its. ap (λ (q : List ℕ). bytes_eq q t) its ∙ is) rows all)
    by_case false is = filter_none (is_named t) rows (all_weaker (λ row. text_at 0 row ≡ s) (λ row. is_named t row ≡ false) (λ row its. ap (λ (q : List ℕ). bytes_eq q t) its ∙ is) rows all)

pub names_verdict : Names tells_verdict
names_verdict s n p x (Rejected fault) = (refl, tt)
names_verdict s n p x (Accepted ordinal revision) = (refl, tt)

pub names_version : Names tells_version
names_version s n p x (Rejected fault) = tt
names_version s n p x (Accepted ordinal revision) = (refl, tt)

pub names_recordings : Names tells_recordings
names_recordings s n p x (Rejected fault) = tt
names_recordings s n p x (Accepted ordinal revision) = all-map (λ row. text_at 0 row ≡ s) (λ (isrc : List ℕ). Text s ∷ Text (work_text x) ∷ Int (pos revision) ∷ Text isrc ∷ []) (λ isrc. refl) (ascending bytes_cmp (isrcs_of x))

module _ (o : Office) (a b : Book) (s : List ℕ) (more : List ℕ) (goes : GoesOn a b s more) (right : (t : List ℕ) → AreRight (ends_of a t)) where
  apart : (t : List ℕ) → bytes_eq s t ≡ false → t ≢ s
  apart t other = λ same. false≢true (sym other ∙ (bytes_eq-Decides s t).1 (sym same))

  works_stay : (t : List ℕ) → bytes_eq s t ≡ false → works_to o b t ≡ works_to o a t
  works_stay t other =
      ap (λ (k : ℕ). works_in (judged_of (placed_line (line_of o (transmissions_to b t k))))) (front_stays a b s more goes t (apart t other))
      ∙ ap (λ (ts : List NumberedTransmission). works_in (judged_of (placed_line (line_of o ts)))) (line_stays a b s more goes t)

  module _ (knows : (t : List ℕ) → knows_sender b t ≡ (bytes_eq s t || knows_sender a t)) where
    fronts_run : (t : List ℕ) → front_rows o b t ≡ cond (bytes_eq s t) (front_row o b s ∷ []) (front_rows o a t)
    fronts_run t = ap (λ x. cond x (front_row o b t ∷ []) []) (knows t) ∙ by_case (bytes_eq s t) refl
      where
        by_case : (x : Bool) → bytes_eq s t ≡ x → cond (x || knows_sender a t) (front_row o b t ∷ []) [] ≡ cond x (front_row o b s ∷ []) (front_rows o a t)
        by_case true is = ap (λ (q : List ℕ). front_row o b q ∷ []) (sym ((bytes_eq-Decides s t).0 is))
        by_case false is = ap₂ (λ (f w : ℕ). cond (knows_sender a t) ((Text t ∷ Int (pos f) ∷ Int (pos w) ∷ []) ∷ []) []) (front_stays a b s more goes t (apart t is)) (works_stay t is)

    fronts_hold : (old new : List Row) → HasRows is_named (front_rows o a) old → IsPermutation (put_over (front_row o b s) old) new → HasRows is_named (front_rows o b) new
    fronts_hold old new has put = put_holds s (Int (pos (front b s)) ∷ Int (pos (works_to o b s)) ∷ []) (front_rows o a) (front_rows o b) old new has (fronts_named o a) fronts_run put

  -- what is told more of the sender's line
  abbrev pub told_more : Telling → List Row
  told_more tells = flat_map (told_by tells o b s) more

  told_run : (tells : Telling) → Names tells → (t : List ℕ) → IsPermutation (told_to_front tells o b t) (filter (is_named t) (told_more tells) ++ told_to_front tells o a t)
  told_run tells names t = by_case (bytes_eq s t) refl (of_one s (told_more tells) (told_named tells names o b s more) t)
    where
      by_case : (x : Bool) → bytes_eq s t ≡ x → filter (is_named t) (told_more tells) ≡ cond (bytes_eq s t) (told_more tells) [] → IsPermutation (told_to_front tells o b t) (filter (is_named t) (told_more tells) ++ told_to_front tells o a t)
      by_case true is left =
          let its : filter (is_named t) (told_more tells) ≡ told_more tells = left ∙ ap (λ x. cond x (told_more tells) []) is in
          subst (λ (l : List Row). IsPermutation (told_to_front tells o b t) (l ++ told_to_front tells o a t)) (sym its)
          (subst (λ (q : List ℕ). IsPermutation (told_to_front tells o b q) (told_more tells ++ told_to_front tells o a q)) ((bytes_eq-Decides s t).0 is)
          (subst (λ (l : List Row). IsPermutation l (told_more tells ++ told_to_front tells o a s)) (sym (told_grows tells o a b s more goes right))
          (IsPermutation-append_comm (told_to_front tells o a s) (told_more tells))))
      by_case false is left =
          same_permutation (told_stays tells o a b t (goes.others t (apart t is))
          ∙ sym (ap (λ l. l ++ told_to_front tells o a t) (left ∙ ap (λ x. cond x (told_more tells) []) is)))

  told_hold : (tells : Telling) → Names tells → (old new : List Row) → HasRows is_named (told_to_front tells o a) old → IsPermutation (told_more tells ++ old) new → HasRows is_named (told_to_front tells o b) new
  told_hold tells names old new has came = more_rows is_named (told_to_front tells o a) (told_to_front tells o b) (told_more tells) old new has (told_run tells names) came

-- the tables have the rows of one book, and what is derived of another
pub record IsLined (o : Office) (a b : Book) (db : Trees) : Type 0 where
  pub registered : rows_in layout.office db ≡ office_row o ∷ []
  pub kept : AreOfBook a db
  pub derived : AreDerived o b db
  pub numbered : AreNumbered layout.fronts db × AreNumbered layout.balances db

module _ (o : Office) (a b : Book) (s : List ℕ) (more : List ℕ) (goes : GoesOn a b s more) (knows : (t : List ℕ) → knows_sender b t ≡ (bytes_eq s t || knows_sender a t)) where
  -- with the front of a sender as its line goes on to it, and what is told of the transmissions that come to it, the tables have what is derived of the book then
  pub lined : (old new : Trees) → HoldsBook o a old
      → PutsLine (front_row o b s) (flat_map (told_by tells_verdict o b s) more) (flat_map (told_by tells_version o b s) more) (flat_map (told_by tells_recordings o b s) more) old new
      → IsLined o a b new
  unfolding written_out
  lined old new holds puts =
      let keeps = kept_but (layout.fronts.tree ∷ layout.verdicts.tree ∷ layout.versions.tree ∷ layout.recordings.tree ∷ []) old new puts.others in
      let right = λ (t : List ℕ). (sound_order a holds.sound t).right in
      let pays = growth_pays a b s more goes right in
      record {
        registered = rows_kept layout.office old new (keeps.office refl) ∙ holds.registered;
        kept = record {
          transmissions = subst (HasRows _ _) (sym (rows_kept layout.transmissions old new (keeps.transmissions refl))) holds.kept.transmissions;
          returns = subst (HasRows _ _) (sym (rows_kept layout.returns old new (keeps.returns refl))) holds.kept.returns;
          pools = subst (HasRows _ _) (sym (rows_kept layout.pools old new (keeps.pools refl))) holds.kept.pools;
          cuts = subst (HasRows _ _) (sym (rows_kept layout.pool_cuts old new (keeps.pool_cuts refl))) holds.kept.cuts;
          paid = subst (HasRows _ _) (sym (rows_kept layout.pool_returns old new (keeps.pool_returns refl))) holds.kept.paid;
          ends = subst (HasRows _ _) (sym (rows_kept layout.segment_ends old new (keeps.ends refl))) holds.kept.ends;
          mechanical = subst (HasRows _ _) (sym (rows_kept layout.mechanical_pools old new (keeps.mechanical refl))) holds.kept.mechanical;
        };
        derived = record {
          fronts = fronts_hold o a b s more goes right knows (rows_in layout.fronts old) (rows_in layout.fronts new) holds.derived.fronts (puts.put holds.numbered.0);
          verdicts = told_hold o a b s more goes right tells_verdict names_verdict (rows_in layout.verdicts old) (rows_in layout.verdicts new) holds.derived.verdicts puts.verdicts;
          versions = told_hold o a b s more goes right tells_version names_version (rows_in layout.versions old) (rows_in layout.versions new) holds.derived.versions puts.versions;
          recordings = told_hold o a b s more goes right tells_recordings names_recordings (rows_in layout.recordings old) (rows_in layout.recordings new) holds.derived.recordings puts.recordings;
          credits = same_rows _ (credit_rows o a) (credit_rows o b) (rows_in layout.credits_table old) (rows_in layout.credits_table new) holds.derived.credits (credits_still o a b holds.sound pays goes.pools) (rows_kept layout.credits_table old new (keeps.credits refl));
          balances = same_rows _ (balance_rows o a) (balance_rows o b) (rows_in layout.balances old) (rows_in layout.balances new) holds.derived.balances (balances_still o a b holds.sound pays goes.pools) (rows_kept layout.balances old new (keeps.balances refl));
        };
        numbered = (puts.numbered holds.numbered.0, subst (AllByRecursion (λ r. is_int (rowid r) ≡ true)) (sym (keeps.balances refl)) holds.numbered.1);
      }

-- a table is as it was where it is neither that of transmissions nor that of ends
abbrev KeptButCome : Trees → Trees → Table → Type 0
KeptButCome old new t = t.tree ≢ layout.transmissions.tree → t.tree ≢ layout.segment_ends.tree → new t.tree ≡ old t.tree

module _ (o : Office) (b : Book) (transmissions : Transmissions) (ends : Ends) where
  abbrev came : Book
  came = record b { transmissions = transmissions; ends = ends }

  -- with what comes the tables hold the book with it, where they have what is derived of that book
  came_holds : (old new : Trees) → IsLined o b came old → IsSound came → HasRows is_transmission_row (transmission_rows came) (rows_in layout.transmissions new) → HasRows is_end_row (end_rows came) (rows_in layout.segment_ends new)
      → AllByRecursion (KeptButCome old new) all_tables → HoldsBook o came new
  unfolding written_out
  came_holds old new is sound of_transmissions of_ends others =
      let keeps = kept_but (layout.transmissions.tree ∷ layout.segment_ends.tree ∷ []) old new others in
      record {
        registered = rows_kept layout.office old new (keeps.office refl) ∙ is.registered;
        sound = sound;
        kept = record {
          transmissions = of_transmissions;
          returns = subst (HasRows _ _) (sym (rows_kept layout.returns old new (keeps.returns refl))) is.kept.returns;
          pools = subst (HasRows _ _) (sym (rows_kept layout.pools old new (keeps.pools refl))) is.kept.pools;
          cuts = subst (HasRows _ _) (sym (rows_kept layout.pool_cuts old new (keeps.pool_cuts refl))) is.kept.cuts;
          paid = subst (HasRows _ _) (sym (rows_kept layout.pool_returns old new (keeps.pool_returns refl))) is.kept.paid;
          ends = of_ends;
          mechanical = subst (HasRows _ _) (sym (rows_kept layout.mechanical_pools old new (keeps.mechanical refl))) is.kept.mechanical;
        };
        derived = record {
          fronts = subst (HasRows _ _) (sym (rows_kept layout.fronts old new (keeps.fronts refl))) is.derived.fronts;
          verdicts = subst (HasRows _ _) (sym (rows_kept layout.verdicts old new (keeps.verdicts refl))) is.derived.verdicts;
          versions = subst (HasRows _ _) (sym (rows_kept layout.versions old new (keeps.versions refl))) is.derived.versions;
          recordings = subst (HasRows _ _) (sym (rows_kept layout.recordings old new (keeps.recordings refl))) is.derived.recordings;
          credits = subst (HasRows _ _) (sym (rows_kept layout.credits_table old new (keeps.credits refl))) is.derived.credits;
          balances = subst (HasRows _ _) (sym (rows_kept layout.balances old new (keeps.balances refl))) is.derived.balances;
        };
        numbered = (subst (AllByRecursion (λ r. is_int (rowid r) ≡ true)) (sym (keeps.fronts refl)) is.numbered.0, subst (AllByRecursion (λ r. is_int (rowid r) ≡ true)) (sym (keeps.balances refl)) is.numbered.1);
      }

module _ (o : Office) (b : Book) (s : List ℕ) (n : ℕ) (body : List ℕ) (free : body_at b s n ≡ None) where
  abbrev next : Book
  next = with_transmission b s n body

  -- what a key is to have once the transmission has come
  transmission_more : (q : TransmissionKey) → transmission_rows next q ≡ filter (is_transmission_row q) (transmission_row (transmission_key s n) body ∷ []) ++ transmission_rows b q
  transmission_more q = by_case (same_transmission_key q (transmission_key s n)) refl
    where
      by_case : (x : Bool) → same_transmission_key q (transmission_key s n) ≡ x → transmission_rows next q ≡ filter (is_transmission_row q) (transmission_row (transmission_key s n) body ∷ []) ++ transmission_rows b q
      by_case true is =
          let one : q ≡ transmission_key s n = same_key_is q (transmission_key s n) is in
          ap (row_of_some (transmission_row q)) (told_after b s n body q.sender q.number ∙ ap (λ x. cond x (Some body) (body_at b q.sender q.number)) is)
          ∙ ap (λ (k : TransmissionKey). transmission_row k body ∷ []) one
          ∙ sym (ap (λ (l : Option (List ℕ)). (transmission_row (transmission_key s n) body ∷ []) ++ row_of_some (transmission_row q) l) (ap (λ (k : TransmissionKey). body_at b k.sender k.number) one ∙ free))
          ∙ sym (ap (λ x. cond x (transmission_row (transmission_key s n) body ∷ []) [] ++ transmission_rows b q) is)
      by_case false is =
          ap (row_of_some (transmission_row q)) (told_after b s n body q.sender q.number ∙ ap (λ x. cond x (Some body) (body_at b q.sender q.number)) is)
          ∙ sym (ap (λ x. cond x (transmission_row (transmission_key s n) body ∷ []) [] ++ transmission_rows b q) is)

  -- with the row of the transmission more the tables hold the book with it
  pub sent_added : (old new : Trees) → IsLined o b next old → IsSound next → IsPermutation ((transmission_row (transmission_key s n) body ∷ []) ++ rows_in layout.transmissions old) (rows_in layout.transmissions new) → KeepsOthers layout.transmissions old new → HoldsBook o next new
  unfolding written_out
  sent_added old new is sound rows others =
      came_holds o b next.transmissions b.ends old new is sound
      (more_rows is_transmission_row (transmission_rows b) (transmission_rows next) (transmission_row (transmission_key s n) body ∷ []) (rows_in layout.transmissions old) (rows_in layout.transmissions new) is.kept.transmissions (λ q. same_permutation (transmission_more q)) rows)
      (subst (HasRows _ _) (sym (rows_kept layout.segment_ends old new ((kept_but (layout.transmissions.tree ∷ []) old new others).ends refl))) is.kept.ends)
      (all_weaker (KeptBut layout.transmissions old new) (KeptButCome old new) (λ t kept apart _. kept apart) all_tables others)

module _ (o : Office) (b : Book) (s : List ℕ) (g : ℕ) (end : End) (free : end_at b s g ≡ None) where
  abbrev ended : Book
  ended = with_end b s g end

  end_after : (q : SegmentKey) → end_at ended q.sender q.segment ≡ cond (same_segment_key q (segment_key s g)) (Some end) (end_at b q.sender q.segment)
  end_after q = finite.get-insert segments_total b.ends (segment_key s g) end q ∙ ap (λ x. cond x (Some end) (end_at b q.sender q.segment)) (segments_tie q (segment_key s g))

  -- whether a row of the end is of a key
  is_own : (q : SegmentKey) → is_end_row q (end_row (segment_key s g) end) ≡ same_segment_key q (segment_key s g)
  is_own q = ap (same_segment_key q) (end_key_back (segment_key s g) end)

  -- what a key is to have once the end has come
  end_more : (q : SegmentKey) → end_rows ended q ≡ filter (is_end_row q) (end_row (segment_key s g) end ∷ []) ++ end_rows b q
  end_more q = by_case (same_segment_key q (segment_key s g)) refl ∙ sym (ap (λ x. cond x (end_row (segment_key s g) end ∷ []) [] ++ end_rows b q) (is_own q))
    where
      by_case : (x : Bool) → same_segment_key q (segment_key s g) ≡ x → end_rows ended q ≡ cond (same_segment_key q (segment_key s g)) (end_row (segment_key s g) end ∷ []) [] ++ end_rows b q
      by_case true is =
          let one : q ≡ segment_key s g = same_segment_is q (segment_key s g) is in
          ap (row_of_some (end_row q)) (end_after q ∙ ap (λ x. cond x (Some end) (end_at b q.sender q.segment)) is)
          ∙ ap (λ (k : SegmentKey). end_row k end ∷ []) one
          ∙ sym (ap (λ (o : Option End). (end_row (segment_key s g) end ∷ []) ++ row_of_some (end_row q) o) (ap (λ (k : SegmentKey). end_at b k.sender k.segment) one ∙ free))
          ∙ sym (ap (λ x. cond x (end_row (segment_key s g) end ∷ []) [] ++ end_rows b q) is)
      by_case false is =
          ap (row_of_some (end_row q)) (end_after q ∙ ap (λ x. cond x (Some end) (end_at b q.sender q.segment)) is)
          ∙ sym (ap (λ x. cond x (end_row (segment_key s g) end ∷ []) [] ++ end_rows b q) is)

  -- with the row of the end more the tables hold the book with it
  pub end_added : (old new : Trees) → IsLined o b ended old → IsSound ended → IsPermutation ((end_row (segment_key s g) end ∷ []) ++ rows_in layout.segment_ends old) (rows_in layout.segment_ends new) → KeepsOthers layout.segment_ends old new → HoldsBook o ended new
  unfolding written_out
  end_added old new is sound rows others =
      came_holds o b b.transmissions ended.ends old new is sound
      (subst (HasRows _ _) (sym (rows_kept layout.transmissions old new ((kept_but (layout.segment_ends.tree ∷ []) old new others).transmissions refl))) is.kept.transmissions)
      (more_rows is_end_row (end_rows b) (end_rows ended) (end_row (segment_key s g) end ∷ []) (rows_in layout.segment_ends old) (rows_in layout.segment_ends new) is.kept.ends (λ q. same_permutation (end_more q)) rows)
      (all_weaker (KeptBut layout.segment_ends old new) (KeptButCome old new) (λ t kept _ apart. kept apart) all_tables others)
