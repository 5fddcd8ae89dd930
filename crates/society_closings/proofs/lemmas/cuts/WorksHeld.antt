-- Tables that hold a book have what a pool is paid by.
use Rattle.share_rules.specs.declared.office.Office.{Office}
use Rattle.sqlite_trees.specs.Tree.{Trees}
use Rattle.society_core.specs.Book.{Book}
use Rattle.society_book.specs.Sources.{HoldsWorks}
use Rattle.society_book.specs.Kept.{HoldsBook}

pub works_of : (o : Office) (b : Book) (db : Trees) → HoldsBook o b db → HoldsWorks o b db
works_of o b db holds = record {
  sound = holds.sound;
  kept = record { transmissions = holds.kept.transmissions; returns = holds.kept.returns };
  derived = record { versions = holds.derived.versions; recordings = holds.derived.recordings };
}
