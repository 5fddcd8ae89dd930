-- Tables with nothing but the office hold the book to which nothing has come.
use Rattle.std.proofs.Common.{◌≡◌, ◌≢◌, ◌∙◌, ℕ, Bool, List, [], ◌∷◌, refl, ap, ap₂, ◌||◌, subst, sym, map, filter, length, false, true, cond, bytes_eq, pos, IsPermutation, arith}
use Rattle.std.specs.FinMap as finite
use Rattle.std.specs.List.{AllByRecursion, flat_map, list_any}
use Rattle.std.specs.Ordering.{nat_cmp}
use Rattle.std.specs.declared.cmp.Ordering.{Ordering}
use Rattle.std.proofs.lemmas.List.Sorted.{IsPermutation-refl}
use Rattle.share_rules.specs.declared.office.Office.{Office}
use Rattle.sqlite_schema.specs.declared.schema.Table.{Table}
use Rattle.sqlite_trees.specs.Tree.{Trees, rowid}
use Rattle.sqlite_trees.specs.View.{is_int}
use Rattle.sqlite_value.specs.Order.{Row}
use Rattle.sqlite_value.specs.declared.value.Value.TheVariants.{Int, Text}
use Rattle.society_core.specs.Book.{empty_book, front}
use Rattle.society_core.specs.Keys.{return_cmp, segment_cmp, transmission_cmp}
use Rattle.sender_segments.specs.Ways.{End}
use Rattle.society_core.specs.declared.segment_key.SegmentKey.{SegmentKey}
use Rattle.society_tables.proofs.lemmas.NobodyLines.{line_of_nobody}
use Rattle.society_core.specs.Orders.{Order}
use Rattle.society_core.specs.declared.transmission_key.TransmissionKey.{TransmissionKey}
use Rattle.society_core.proofs.lemmas.Books.{empty_book_sound}
use Rattle.society_core.specs.Pools.{credits_of}
use Rattle.society_rows.specs.Layout as layout
use Rattle.society_rows.specs.Layout.{all_tables, written_out}
use Rattle.society_rows.specs.NewBook.{Begins, IsNewBook}
use Rattle.sqlite.specs.Effect.{Database}
use Rattle.sqlite.specs.State.{State}
use Rattle.society_book.specs.BookRows.{book_of}
use Rattle.society_tables.proofs.lemmas.AddLemmas.{holds_own, stands}
use Rattle.society_rows.specs.Stored.{rows_in, values_of}
use Rattle.society_book.specs.BookRows.{cut_row, end_row, marks_by, paid_row, pool_row, return_row, row_of_some, rows_of_order, transmission_row}
use Rattle.society_book.specs.Columns.{HasRows}
use Rattle.society_book.specs.DerivedRows.{Telling, balance_rows, balance_rows_by, credit_rows_by, front_rows, knows_sender, tells_recordings, tells_verdict, tells_version, told_by, told_to_front, works_to}
use Rattle.society_book.specs.Kept.{HoldsBook, IsAtRest, office_row}
use Rattle.work_ids.specs.Account.{account_text}

none_left : {A : Type 0} (es : List A) → length es ≡ 0 → es ≡ []
none_left [] e = refl
none_left (x ∷ es) e = absurd (omega (e, arith))

-- a map of nothing has no entries
pub no_entries : {K : Type 0} (R : K → K → Ordering) (X : Type 0) → finite.entries (finite.empty {X = X} {R = R}) ≡ []
no_entries R X = none_left (finite.entries (finite.empty {X = X} {R = R})) (sym (finite.len-entries (finite.empty {X = X} {R = R})) ∙ finite.len-empty R X)

-- no rows where none are to be
no_rows : {K : Type 0} (is_of : K → Row → Bool) (expected : K → List Row) (rows : List Row) → rows ≡ [] → ((q : K) → expected q ≡ []) → HasRows is_of expected rows
no_rows is_of expected rows none nothing q = subst (λ l. IsPermutation l (filter (is_of q) rows)) (sym (nothing q)) (subst (λ l. IsPermutation [] (filter (is_of q) l)) (sym none) (IsPermutation-refl []))

-- the empty book has nothing of a sender
pub nothing_known : (s : List ℕ) → knows_sender empty_book s ≡ false
nothing_known s =
    ap₂ (λ x y. x || y) (ap (λ (es : List (TransmissionKey × List ℕ)). list_any (λ (key : TransmissionKey). bytes_eq key.sender s) (map (λ e. e.0) es)) (no_entries transmission_cmp (List ℕ)))
    (ap (λ (es : List (SegmentKey × End)). list_any (λ (key : SegmentKey). bytes_eq key.sender s) (map (λ e. e.0) es)) (no_entries segment_cmp End))

pub told_nothing : (tells : Telling) (o : Office) (s : List ℕ) → told_to_front tells o empty_book s ≡ []
told_nothing tells o s = ap (flat_map (told_by tells o empty_book s)) (line_of_nobody empty_book s (nothing_known s))

record AreBare (db : Trees) : Type 0 where
  transmissions : db layout.transmissions.tree ≡ []
  returns : db layout.returns.tree ≡ []
  pools : db layout.pools.tree ≡ []
  pool_cuts : db layout.pool_cuts.tree ≡ []
  pool_returns : db layout.pool_returns.tree ≡ []
  fronts : db layout.fronts.tree ≡ []
  verdicts : db layout.verdicts.tree ≡ []
  versions : db layout.versions.tree ≡ []
  recordings : db layout.recordings.tree ≡ []
  credits : db layout.credits_table.tree ≡ []
  balances : db layout.balances.tree ≡ []
  ends : db layout.segment_ends.tree ≡ []
  mechanical : db layout.mechanical_pools.tree ≡ []

are_bare : (db : Trees) → AllByRecursion (λ t. t.tree ≢ layout.office.tree → db t.tree ≡ []) all_tables → AreBare db
unfolding all_tables written_out
are_bare db bare = record {
  transmissions = bare.1.0 (λ e. omega (arith, e));
  returns = bare.1.1.0 (λ e. omega (arith, e));
  pools = bare.1.1.1.0 (λ e. omega (arith, e));
  pool_cuts = bare.1.1.1.1.0 (λ e. omega (arith, e));
  pool_returns = bare.1.1.1.1.1.0 (λ e. omega (arith, e));
  fronts = bare.1.1.1.1.1.1.0 (λ e. omega (arith, e));
  verdicts = bare.1.1.1.1.1.1.1.0 (λ e. omega (arith, e));
  versions = bare.1.1.1.1.1.1.1.1.0 (λ e. omega (arith, e));
  recordings = bare.1.1.1.1.1.1.1.1.1.0 (λ e. omega (arith, e));
  credits = bare.1.1.1.1.1.1.1.1.1.1.0 (λ e. omega (arith, e));
  balances = bare.1.1.1.1.1.1.1.1.1.1.1.0 (λ e. omega (arith, e));
  ends = bare.1.1.1.1.1.1.1.1.1.1.1.1.0 (λ e. omega (arith, e));
  mechanical = bare.1.1.1.1.1.1.1.1.1.1.1.1.1.0 (λ e. omega (arith, e));
}

bare_rows : (t : Table) (db : Trees) → db t.tree ≡ [] → rows_in t db ≡ []
bare_rows t db e = ap (map (values_of t)) e

-- a new book of the office holds nothing
pub begins_empty : (o : Office) (row : Row) (db : Trees) → row ≡ office_row o → IsNewBook row db → HoldsBook o empty_book db
begins_empty o row db is new =
    let bare = are_bare db new.empty in
    record {
      registered = new.registered ∙ ap (λ r. r ∷ []) is;
      sound = empty_book_sound;
      kept = record {
        transmissions = no_rows _ _ _ (bare_rows layout.transmissions db bare.transmissions) (λ q. ap (row_of_some (transmission_row q)) (finite.get-empty transmission_cmp q));
        returns = no_rows _ _ _ (bare_rows layout.returns db bare.returns) (λ q. ap (row_of_some (return_row q)) (finite.get-empty return_cmp q));
        pools = no_rows _ _ _ (bare_rows layout.pools db bare.pools) (λ q. ap (row_of_some (pool_row q)) (finite.get-empty nat_cmp q));
        cuts = no_rows _ _ _ (bare_rows layout.pool_cuts db bare.pool_cuts) (λ q. ap (rows_of_order (cut_row q) (λ order. order.cut)) (finite.get-empty nat_cmp q));
        paid = no_rows _ _ _ (bare_rows layout.pool_returns db bare.pool_returns) (λ q. ap (rows_of_order (paid_row q) (λ order. order.returns)) (finite.get-empty nat_cmp q));
        ends = no_rows _ _ _ (bare_rows layout.segment_ends db bare.ends) (λ q. ap (row_of_some (end_row q)) (finite.get-empty segment_cmp q));
        mechanical = no_rows _ _ _ (bare_rows layout.mechanical_pools db bare.mechanical) (λ q. ap (marks_by q) (finite.get-empty nat_cmp q));
      };
      derived = record {
        fronts = no_rows _ (front_rows o empty_book) _ (bare_rows layout.fronts db bare.fronts) (λ q. ap (λ b. cond b ((Text q ∷ Int (pos (front empty_book q)) ∷ Int (pos (works_to o empty_book q)) ∷ []) ∷ []) []) (nothing_known q));
        verdicts = no_rows _ _ _ (bare_rows layout.verdicts db bare.verdicts) (told_nothing tells_verdict o);
        versions = no_rows _ _ _ (bare_rows layout.versions db bare.versions) (told_nothing tells_version o);
        recordings = no_rows _ _ _ (bare_rows layout.recordings db bare.recordings) (told_nothing tells_recordings o);
        credits = no_rows _ _ _ (bare_rows layout.credits_table db bare.credits) (λ q. ap (credit_rows_by o empty_book q) (finite.get-empty nat_cmp q));
        balances = no_rows _ (balance_rows o empty_book) _ (bare_rows layout.balances db bare.balances) (λ q. nobody q);
      };
      numbered = (subst (AllByRecursion (λ r. is_int (rowid r) ≡ true)) (sym bare.fronts) tt, subst (AllByRecursion (λ r. is_int (rowid r) ≡ true)) (sym bare.balances) tt);
    }
  where
    nobody : (q : List ℕ) → balance_rows o empty_book q ≡ []
    nobody q = ap (λ (es : List (ℕ × Order)). balance_rows_by q (filter (λ credit. bytes_eq q (account_text credit.account)) (flat_map (credits_of o empty_book) (map (λ e. e.1) es)))) (no_entries nat_cmp Order)

-- a connection that begins a book of the office is at rest
pub begun_rests : (o : Office) (row : Row) (s : State) → row ≡ office_row o → Begins row s.now → s.now ≡ s.committed → IsAtRest o s
begun_rests o row s is begins same = record {
  same = same;
  kept = record { layout = begins.layout; holds = holds_own o empty_book s.now.trees (begins_empty o row s.now.trees is begins.book) };
}

-- and shows the book to which nothing has come
pub begun_book : (o : Office) (row : Row) (db : Database) → row ≡ office_row o → Begins row db → book_of db.trees ≡ empty_book
begun_book o row db is begins = stands o empty_book db.trees (begins_empty o row db.trees is begins.book)
