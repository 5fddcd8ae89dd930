-- Versions that are weighed, in each right and for fewer recordings.
use Rattle.std.proofs.Common.{◌≡◌, ℕ, Bool, true, List, Option, Some, None}
use Rattle.std.specs.BTreeSet.{contains}
use Rattle.share_rules.specs.declared.kind.Kind.{Kind}
use Rattle.share_rules.specs.declared.kind.Kind.TheVariants.{Mechanical, Performing}
use Rattle.share_rules.specs.declared.office.Office.{Office}
use Rattle.society_closings.specs.Weighing.{AreLent, AreWeighed, AreWorksWeighed}
use Rattle.society_closings.specs.declared.pool_works.PoolWorks.{PoolWorks}
use Rattle.society_closings.specs.declared.weighed_works.WeighedWorks.{WeighedWorks}
use Rattle.society_core.specs.Keys.{bytes_cmp}
use Rattle.sqlite_trees.specs.Tree.{Trees}

-- what is weighed for recordings is so for fewer of them
pub lent_fewer : (kind : Kind) (office : Office) (many few : List ℕ → Bool) (db : Trees) (weighed : Option WeighedWorks) → ((isrc : List ℕ) → few isrc ≡ true → many isrc ≡ true) → AreLent kind office many db weighed → AreLent kind office few db weighed
lent_fewer kind office many few db None fewer lent = tt
lent_fewer kind office many few db (Some weighed) fewer lent = λ book holds key versions is chosen number isrc asked. lent book holds key versions is chosen number isrc (fewer isrc asked)

-- works are weighed that are so in each right
pub both_weighed : (office : Office) (db : Trees) (works : PoolWorks) → AreWeighed Performing office (contains bytes_cmp works.performing.recordings) db works.performing → AreWeighed Mechanical office (contains bytes_cmp works.mechanical.recordings) db works.mechanical → AreWorksWeighed office db works
both_weighed office db works one other Performing = one
both_weighed office db works one other Mechanical = other
