-- What the pools pay is derived alike from books that pay alike.
use Rattle.std.proofs.Common.{◌≡◌, ◌∙◌, ◌++◌, ℕ, List, [], ◌∷◌, Option, Some, None, refl, ap, sym, map, filter, bytes_eq}
use Rattle.std.specs.FinMap as finite
use Rattle.std.specs.List.{AllByRecursion, enumerate_from, flat_map}
use Rattle.pool_split.specs.declared.claim.Credit.{Credit}
use Rattle.share_rules.specs.declared.office.Office.{Office}
use Rattle.society_core.specs.Book.{Book, IsSound, order_at}
use Rattle.society_core.specs.Orders.{Order}
use Rattle.society_core.specs.Pools.{all_credits, credits_of}
use Rattle.society_core.proofs.lemmas.ClosedPools.{PaysAlike, credits_same}
use Rattle.society_core.proofs.lemmas.PoolLemmas.{IsPool, each_pool}
use Rattle.society_book.specs.DerivedRows.{balance_rows, balance_rows_by, credit_row, credit_rows, credit_rows_by}
use Rattle.work_ids.specs.Account.{account_text}

module _ (o : Office) (a b : Book) (sound : IsSound a) (alike : PaysAlike a b) where
  -- the lines of an order
  pub of_order : (pool : ℕ) (x : Option Order) → order_at a pool ≡ x → credit_rows_by o b pool x ≡ credit_rows_by o a pool x
  of_order pool None is = refl
  of_order pool (Some order) is = ap (λ (cs : List Credit). map (λ line. credit_row pool line.0 line.1) (enumerate_from 0 cs)) (sym (credits_same o a b pool order alike (sound.pools pool order is)))

  -- the credits of some orders
  pub of_pools : (es : List (ℕ × Order)) → AllByRecursion (IsPool a) es → flat_map (credits_of o a) (map (λ e. e.1) es) ≡ flat_map (credits_of o b) (map (λ e. e.1) es)
  of_pools [] there = refl
  of_pools (e ∷ es) there =
      ap (λ (cs : List Credit). cs ++ flat_map (credits_of o a) (map (λ e. e.1) es)) (credits_same o a b e.0 e.1 alike (sound.pools e.0 e.1 there.0))
      ∙ ap (λ (cs : List Credit). credits_of o b e.1 ++ cs) (of_pools es there.1)

module _ (o : Office) (a b : Book) (sound : IsSound a) (alike : PaysAlike a b) (pools : b.pools ≡ a.pools) where
  -- the lines of each pool
  pub credits_still : (pool : ℕ) → credit_rows o b pool ≡ credit_rows o a pool
  credits_still pool = ap (λ m. credit_rows_by o b pool (finite.get m pool)) pools ∙ of_order o a b sound alike pool (order_at a pool) refl

  -- and the rows of the accounts
  pub balances_still : (account : List ℕ) → balance_rows o b account ≡ balance_rows o a account
  balances_still account =
      let same : all_credits o b ≡ all_credits o a = ap (λ m. flat_map (credits_of o b) (finite.values m)) pools ∙ sym (of_pools o a b sound alike (finite.entries a.pools) (each_pool a)) in
      ap (λ (cs : List Credit). balance_rows_by account (filter (λ credit. bytes_eq account (account_text credit.account)) cs)) same
