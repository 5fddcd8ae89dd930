-- What a closed pool credits to whom, and what accounts have come to.
use Rattle.std.specs.Prelude.{ℕ, ◌≡◌, All, List, count_by, map, option_map}
use Rattle.std.specs.FinMap as finite
use Rattle.std.specs.List.{filter, flat_map, sum_by}
use Rattle.pool_split.specs.Credits.{credits, units_of}
use Rattle.pool_split.specs.declared.claim.Claim.{Claim}
use Rattle.pool_split.specs.declared.claim.Credit.{Credit}
use Rattle.share_rules.specs.Weights.{weights_of}
use Rattle.share_rules.specs.declared.holder.Holder.{Holder}
use Rattle.share_rules.specs.declared.kind.Kind.{Kind}
use Rattle.share_rules.specs.declared.office.Office.{Office}
use Rattle.work_ids.specs.declared.account.Account.{Account}
use Rattle.society_core.specs.Accounts.{same_account}
use Rattle.society_core.specs.Book.{Book}
use Rattle.society_core.specs.Orders.{Order}
use Rattle.society_core.specs.Owners.{CutWork, owner}
use Rattle.society_core.specs.Points.{points_by_recording, rows_named}

-- the holders of a work at a cut, with their weights in a right
abbrev pub holders_of : Kind → Office → CutWork → List Holder
holders_of right office work = weights_of right work.sender office work.transaction

-- a recording with its points as a claim of its owner's holders in the right that the order names, or of nobody
abbrev pub claim_of : Office → Book → Order → List ℕ × ℕ → Claim
claim_of office book order played = record {
  isrc = played.0;
  points = played.1;
  holders = option_map (holders_of order.kind office) (owner office book order played.0);
}

-- the claims of a pool: each recording of its returns with its points and its owner's holders, ascending by ISRC (profile)
abbrev pub claims_of : Office → Book → Order → List Claim
claims_of office book order = map (claim_of office book order) (points_by_recording (rows_named book order))

-- the credits of a pool with this order: its amount split over the recordings by their points, and each part over the weights of the owner's work, or to nobody (profile)
unfoldable pub credits_of : Office → Book → Order → List Credit
credits_of office book order = credits order.amount (claims_of office book order)

-- all credits of all pools, in the order of the pools
abbrev pub all_credits : Office → Book → List Credit
all_credits office book = flat_map (credits_of office book) (finite.values book.pools)

-- the units that some credits give to an account
abbrev pub units_to : Account → List Credit → ℕ
units_to account credits = sum_by units_of (filter (λ credit. same_account credit.account account) credits)

-- the balance of an account: its units over the credits of all pools (profile)
abbrev pub balance : Office → Book → Account → ℕ
balance office book account = units_to account (all_credits office book)

-- a credit's account is once among some accounts
abbrev pub IsOnceAmong : List Account → Credit → Type 0
IsOnceAmong accounts credit = count_by (same_account credit.account) accounts ≡ 1

-- some accounts are all that are credited, each once
abbrev pub AreAllAccounts : Office → Book → List Account → Type 0
AreAllAccounts office book accounts = All (IsOnceAmong accounts) (all_credits office book)
