-- Tables to which the lines of all senders were written hold all of a book but what its pools pay.
use Rattle.std.proofs.Common.{◌≡◌, ◌∙◌, List, [], ℕ, arith, subst, sym, true}
use Rattle.std.specs.List.{AllByRecursion}
use Rattle.share_rules.specs.declared.office.Office.{Office}
use Rattle.sqlite_schema.specs.declared.schema.Table.{Table}
use Rattle.sqlite_trees.specs.Tree.{Trees, rowid}
use Rattle.sqlite_trees.specs.View.{is_int}
use Rattle.sqlite_value.specs.Order.{Row}
use Rattle.society_core.specs.Book.{Book, IsSound}
use Rattle.society_core.proofs.lemmas.Books.{sound_order}
use Rattle.society_rows.specs.Layout as layout
use Rattle.society_rows.specs.Layout.{all_tables, written_out}
use Rattle.society_rows.specs.Stored.{AreNumbered, rows_in}
use Rattle.society_book.specs.BookRows.{book_of}
use Rattle.society_book.specs.Columns.{HasRows}
use Rattle.society_book.specs.DerivedRows.{front_rows, is_named, tells_recordings, tells_verdict, tells_version, told_to_front}
use Rattle.society_arrivals.specs.LineTables.{KeepsUnlined}
use Rattle.society_book.specs.Sources.{HasEnds, KeepsBodies}
use Rattle.society_book.proofs.lemmas.rows_alike.BookLemmas.{the_book}
use Rattle.book_audit.specs.Audited.{IsRegistered}
use Rattle.book_audit.specs.Auditing.{AreSenders}
use Rattle.book_audit.specs.Entries.{AreEndsAbove, HoldsEntries}
use Rattle.book_audit.specs.Paying.{HoldsUnpaid, unpaid}
use Rattle.book_audit.proofs.lemmas.gathered.EntryBooks.{keeps_ends, keeps_entries, sound_entries}
use Rattle.book_audit.proofs.lemmas.gathered.EntrySenders.{senders_of_entries}
use Rattle.book_audit.proofs.lemmas.gathered.SenderLines.{all_fronts, all_recordings, all_verdicts, all_versions}
use Rattle.book_derivation.specs.Deriving.{HasNoLines, HasNoMoney, HoldsUnderived, KeepsOwn}
use Rattle.book_derivation.specs.Lines.{HoldsLinesOf, WritesLines}
use Rattle.book_derivation.specs.Money.{HoldsLined}
use Rattle.book_derivation.proofs.lemmas.OwnTables.{book_kept, ends_kept, has_kept, office_kept, own_kept, returns_kept, rows_kept, transmissions_kept}

-- rows that are none have whole numbers as their rowids
none_numbered : (t : Table) (db : Trees) → db t.tree ≡ [] → AreNumbered t db
none_numbered t db none = subst (λ (rows : List Row). AllByRecursion (λ r. is_int (rowid r) ≡ true) rows) (sym none) tt

module _ (one two : Trees) (others : KeepsUnlined one two) where
  credits_unlined : two layout.credits_table.tree ≡ one layout.credits_table.tree
  unfolding written_out
  credits_unlined = others.1.1.1.1.1.1.1.1.1.1.0 (λ e. omega (e, arith)) (λ e. omega (e, arith)) (λ e. omega (e, arith)) (λ e. omega (e, arith))

  balances_unlined : two layout.balances.tree ≡ one layout.balances.tree
  unfolding written_out
  balances_unlined = others.1.1.1.1.1.1.1.1.1.1.1.0 (λ e. omega (e, arith)) (λ e. omega (e, arith)) (λ e. omega (e, arith)) (λ e. omega (e, arith))

  -- a table that had nothing of pools has nothing of them
  pub no_money : HasNoMoney one → HasNoMoney two
  no_money none = (credits_unlined ∙ none.0, (balances_unlined ∙ none.1.0, tt))

module _ (o : Office) (senders : List (List ℕ)) (one two : Trees) (entries : HoldsEntries senders one) (above : AreEndsAbove one) (keeps : KeepsOwn one two) (written : WritesLines o senders one two) (none : HasNoLines one) where
  abbrev b : Book
  b = book_of one

  bodies : KeepsBodies b one
  bodies = keeps_entries senders one entries

  ends : HasEnds b one
  ends = keeps_ends senders one entries

  sound : IsSound (unpaid b)
  sound = sound_entries senders one entries above

  these : AreSenders b senders
  these = senders_of_entries senders one entries

  lines : HoldsLinesOf o b senders two
  lines = written.holds b (record { transmissions = bodies.transmissions; ends = ends }) (λ s. sound_order (unpaid b) sound s) these none

  fronts : HasRows is_named (front_rows o b) (rows_in layout.fronts two)
  fronts = all_fronts o b senders two these lines.lines lines.owners

  versions : HasRows is_named (told_to_front tells_version o b) (rows_in layout.versions two)
  versions = all_versions o b senders two these lines.lines lines.owners

  recordings : HasRows is_named (told_to_front tells_recordings o b) (rows_in layout.recordings two)
  recordings = all_recordings o b senders two these lines.lines lines.owners

  -- they hold all but what the pools are and pay
  pub lined : IsRegistered o one → HasNoMoney one → HoldsUnpaid o two
  lined registered money =
      let same : b ≡ book_of two = sym (book_kept one two keeps) in
      record {
        registered = rows_kept layout.office one two (office_kept one two keeps) ∙ registered;
        sound = subst (λ (x : Book). IsSound (unpaid x)) same sound;
        bodies = subst (λ (x : Book). KeepsBodies x two) same
            (record { transmissions = has_kept _ _ layout.transmissions one two (transmissions_kept one two keeps) bodies.transmissions; returns = has_kept _ _ layout.returns one two (returns_kept one two keeps) bodies.returns });
        ends = subst (λ (x : Book). HasEnds x two) same (has_kept _ _ layout.segment_ends one two (ends_kept one two keeps) ends);
        fronts = subst (λ (x : Book). HasRows is_named (front_rows o x) (rows_in layout.fronts two)) same fronts;
        verdicts = subst (λ (x : Book). HasRows is_named (told_to_front tells_verdict o x) (rows_in layout.verdicts two)) same (all_verdicts o b senders two these lines.lines lines.owners);
        versions = subst (λ (x : Book). HasRows is_named (told_to_front tells_version o x) (rows_in layout.versions two)) same versions;
        recordings = subst (λ (x : Book). HasRows is_named (told_to_front tells_recordings o x) (rows_in layout.recordings two)) same recordings;
        numbered = (lines.numbered, none_numbered layout.balances two (no_money one two written.others money).1.0);
      }

  -- a book whose own rows they have, they have with its lines
  pub lined_of : (book : Book) → HoldsUnderived o book one → HoldsLined o book two
  lined_of book under =
      let same : b ≡ book = the_book book one under.sound under.own in
      record {
        reached = record {
          own = record { sound = under.sound; kept = own_kept one two keeps book under.own };
          fronts = subst (λ (x : Book). HasRows is_named (front_rows o x) (rows_in layout.fronts two)) same fronts;
        };
        works = record {
          versions = subst (λ (x : Book). HasRows is_named (told_to_front tells_version o x) (rows_in layout.versions two)) same versions;
          recordings = subst (λ (x : Book). HasRows is_named (told_to_front tells_recordings o x) (rows_in layout.recordings two)) same recordings;
        };
      }
