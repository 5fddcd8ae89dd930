-- What the lines of a pool's credits say of the tables, by what the pool pays.
use Rattle.book_audit.specs.Examining.{IsNot}
use Rattle.std.proofs.Common.{◌≡◌, ◌∙◌, ℕ, pos, List, [], ◌∷◌, ap₂, sym, subst}
use Rattle.pool_split.specs.declared.claim.Credit.{Credit}
use Rattle.share_rules.specs.declared.office.Office.{Office}
use Rattle.sqlite_trees.specs.Tree.{Trees}
use Rattle.sqlite_value.specs.declared.value.Value.TheVariants.{Int}
use Rattle.society_core.specs.Orders.{Order}
use Rattle.society_closings.specs.Closings.{PaysAmong}
use Rattle.society_closings.specs.declared.pool_works.PoolWorks.{PoolWorks}
use Rattle.society_rows.specs.Layout as layout
use Rattle.society_rows.specs.Reads.{Lists, has_key}
use Rattle.book_audit.specs.Credits.{HasCredits, HasNoPool, credit_lines}
use Rattle.book_audit.specs.CreditSteps.{ListsOnly}
use Rattle.book_audit.proofs.lemmas.credits.CreditLines.{credits_shown}
use Rattle.book_audit.proofs.lemmas.credits.Payable.{payable}

module _ (o : Office) (db : Trees) (pool : ℕ) (order : Order) (number : ℕ) (works : PoolWorks) (credits paid : List Credit) (number_is : number ≡ pool) (same : credits ≡ paid) where
  -- where its lines are not always those of what it pays, there is no book with this pool
  pub no_pool : PaysAmong o order works db paid → IsNot (ListsOnly number credits) db → HasNoPool o pool order works db
  no_pool pays differ listed b holds is =
      let can = payable o b db holds pool order is in
      differ
      (λ rows lists.
      credits_shown o b db holds pool order is rows (subst (λ (n : ℕ). Lists layout.credits_table (has_key (Int (pos n) ∷ [])) 2 db rows) number_is lists) ∙ sym (ap₂ credit_lines number_is (same ∙ pays listed b can.0 can.1)))

  -- where they are those, they are the pool's
  pub has_pool : HasCredits number credits db → HasCredits pool paid db
  has_pool has = subst (λ (n : ℕ). HasCredits n paid db) number_is (subst (λ (cs : List Credit). HasCredits number cs db) same has)
