-- Tables that were closed are the book of the database file.
use Rattle.std.proofs.Common.{ap, subst}
use Rattle.std.proofs.Math.Logic.{∥∥₁_elim, ∥∥₁_map}
use Rattle.std.specs.Coded.{Coded-set}
use Rattle.sqlite.specs.Closing.{IsCopied}
use Rattle.sqlite.specs.Effect.{Database}
use Rattle.sqlite.specs.Files.{file_state}
use Rattle.sqlite.specs.Held.{Held}
use Rattle.sqlite_disk.specs.declared.Disk.{Ghosts}
use Rattle.sqlite_disk.specs.declared.Files.{Files}
use Rattle.sqlite_store.specs.declared.store.FileStore.{FileStore}
use Rattle.share_rules.specs.declared.office.Office.{Office}
use Rattle.society_core.specs.PlainMaps.{coded_book}
use Rattle.society_book.proofs.lemmas.shown.AskLemmas.{both_true, is_clean}
use Rattle.society_book.specs.BookRows.{book_of}
use Rattle.society_book.specs.Kept.{HoldsOwnBook, Rests}
use Rattle.society_commands.specs.Closing.{HoldsBookAlone}

-- what was copied of tables at rest is their book
pub copied_book : {D : Type 0} {g : Ghosts D} (office : Office) (c : Held (FileStore D g)) (files : Files D) → ∥ Rests office (file_state c) ∥₁ → IsCopied c files
    → HoldsBookAlone g office (book_of (file_state c).now.trees) files
copied_book {g = g} office c files rests copied =
    let live = both_true (file_state c).is_clean (file_state c).is_open (is_clean (file_state c).is_clean copied.was_clean) copied.was_open in
    record {
      trees = (file_state c).committed.trees;
      seen = copied.seen;
      left = copied.left;
      holds = ∥∥₁_map rests (λ r. subst (λ (db : Database). HoldsOwnBook office db.trees) (r live).same (r live).kept.holds);
      same = ∥∥₁_elim rests (Coded-set coded_book _ _) (λ r. ap (λ (db : Database). book_of db.trees) (r live).same);
    }
