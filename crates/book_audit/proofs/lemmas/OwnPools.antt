-- A book that tables hold pays what their rows say.
use Rattle.society_closings.specs.Closings.{row_of_account}
use Rattle.std.proofs.Common.{◌≡◌, ◌∙◌, ℕ, List, [], ◌∷◌, filter, subst, sym, bytes_eq, IsPermutation}
use Rattle.std.specs.BTreeSet.{BTreeSet}
use Rattle.std.specs.FinMap as finite
use Rattle.sqlite_keyed.proofs.ListLemmas.{IsPermutation-filter}
use Rattle.pool_split.specs.declared.claim.Credit.{Credit}
use Rattle.share_rules.specs.declared.office.Office.{Office}
use Rattle.sqlite_trees.specs.Tree.{Trees}
use Rattle.sqlite_value.specs.Order.{Row}
use Rattle.society_core.specs.Book.{Book, order_at}
use Rattle.society_core.specs.Pools.{all_credits}
use Rattle.society_rows.specs.Layout as layout
use Rattle.society_rows.specs.Stored.{rows_in}
use Rattle.society_book.specs.DerivedRows.{is_named}
use Rattle.society_book.specs.Kept.{HoldsBook}
use Rattle.society_book.specs.Sources.{HoldsWorks}
use Rattle.society_closings.proofs.lemmas.money.BalanceAdds.{same_balance}
use Rattle.society_closings.proofs.lemmas.money.Payments.{cut_reached}
use Rattle.work_ids.specs.Account.{account_text}
use Rattle.book_audit.specs.Balances.{HasBalances}
use Rattle.book_audit.specs.Credits.{AreCreditsOfPools}
use Rattle.book_audit.specs.Paying.{AreApart, AreClosedIn, AreNumbersOf, AreReachedIn, CannotPayAny, credits_by}
use Rattle.book_audit.proofs.lemmas.credits.Payable.{payable}
use Rattle.society_closings.proofs.lemmas.cuts.WorksHeld.{works_of}
use Rattle.society_core.specs.Candidates.{CanBePaid}
use Rattle.std.specs.List.{AllByRecursion}
use Rattle.book_audit.specs.OwnRows.{HoldsReached}
use Rattle.book_audit.specs.Pools.{orders_by}
use Rattle.book_audit.specs.declared.pool_orders.ClosedPool.{ClosedPool}
use Rattle.book_audit.proofs.lemmas.Among.{credits_of_all, got, named_where}
use Rattle.book_audit.proofs.lemmas.credits.CreditLines.{own_credits}

-- the same credits in another order come to the same
pub same_rows : (xs ys : List Credit) → IsPermutation xs ys → (account : List ℕ) → row_of_account xs account ≡ row_of_account ys account
same_rows xs ys moved account =
    let its : Credit → _ = λ credit. bytes_eq account (account_text credit.account) in
    same_balance account (filter its xs) (filter its ys) (IsPermutation-filter its xs ys moved)

-- it has its own rows, and how far each sender came
pub reached_by : (o : Office) (b : Book) (db : Trees) → HoldsBook o b db → HoldsReached o b db
reached_by o b db holds = record { own = record { sound = holds.sound; kept = holds.kept }; fronts = holds.derived.fronts }

module _ (o : Office) (b : Book) (db : Trees) (holds : HoldsBook o b db) (closed : List ClosedPool) (whole : (q : ℕ) → order_at b q ≡ finite.get (orders_by closed) q) where
  -- it has the works
  pub works_held : HoldsWorks o b db
  works_held = record {
    sound = holds.sound;
    kept = record { transmissions = holds.kept.transmissions; returns = holds.kept.returns };
    derived = record { versions = holds.derived.versions; recordings = holds.derived.recordings };
  }

  -- the cuts of its pools are reached
  pub all_reached : (some : List ClosedPool) → AreClosedIn b some → AreReachedIn b some
  all_reached [] there = tt
  all_reached (c ∷ some) there = (cut_reached b c.pool c.order (holds.sound.pools c.pool c.order there.0), all_reached some there.1)

  -- each line of credits is of one of its pools
  pub credits_own : (numbers : BTreeSet ℕ) → AreNumbersOf closed numbers → AreCreditsOfPools numbers db
  credits_own numbers these = own_credits o b db holds numbers (λ q order is. these q ∙ named_where q order closed (sym (got closed q) ∙ sym (whole q) ∙ is))

  -- and the balances are what their credits come to
  pub balances_own : AreApart closed → HasBalances (credits_by o b closed) db
  balances_own are account =
      subst (λ (l : List Row). IsPermutation l (filter (is_named account) (rows_in layout.balances db)))
      (sym (same_rows (credits_by o b closed) (all_credits o b) (credits_of_all o b closed are whole) account)) (holds.derived.balances account)

-- the pools of a book that the tables hold can be paid
payable_there : (o : Office) (b : Book) (db : Trees) → HoldsBook o b db → (some : List ClosedPool) → AreClosedIn b some → AllByRecursion (λ (c : ClosedPool). CanBePaid b c.order) some
payable_there o b db holds [] there = tt
payable_there o b db holds (c ∷ some) there = ((payable o b db holds c.pool c.order there.0).2, payable_there o b db holds some there.1)

pub all_payable : (o : Office) (b : Book) (db : Trees) → HoldsBook o b db → (closed : List ClosedPool) → CannotPayAny closed db → AreClosedIn b closed → ⊥
all_payable o b db holds closed cannot there = cannot o b (works_of o b db holds) (payable_there o b db holds closed there)
