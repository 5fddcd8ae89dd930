-- What the tables of an office are to have for an audit of their book.
use Rattle.std.specs.Prelude.{◌≡◌, [], ◌∷◌}
use Rattle.share_rules.specs.declared.office.Office.{Office}
use Rattle.sqlite_trees.specs.Tree.{Trees}
use Rattle.society_rows.specs.Layout as layout
use Rattle.society_rows.specs.Stored.{AreNumbered, rows_in}
use Rattle.society_book.specs.Kept.{office_row}

-- the tables are those of this office
abbrev pub IsRegistered : Office → Trees → Type 0
IsRegistered office db = rows_in layout.office db ≡ office_row office ∷ []

-- what is put over another row has a whole number as its rowid
abbrev pub IsNumbered : Trees → Type 0
IsNumbered db = AreNumbered layout.fronts db × AreNumbered layout.balances db
