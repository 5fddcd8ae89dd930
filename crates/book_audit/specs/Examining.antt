-- What is wrong of rows that do not pass.
use Rattle.share_rules.specs.declared.office.Office.{Office}
use Rattle.sqlite_trees.specs.Tree.{Trees}
use Rattle.society_book.specs.Kept.{HoldsOwnBook}

-- this is not so
abbrev pub IsNot : (Trees → Type 0) → Trees → Type 0
IsNot Says db = Says db → ⊥

-- the tables do not hold the book of this office that they stand for, with exactly what is derived of it
abbrev pub HoldsNot : Office → Trees → Type 0
HoldsNot office db = HoldsOwnBook office db → ⊥
