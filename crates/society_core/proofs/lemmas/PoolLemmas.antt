-- What the pools of a sound book pay: each to its last unit, and each balance a part of it.
use Rattle.std.proofs.Common.{◌≡◌, ℕ, ◌+◌, ◌*◌, ◌<◌, ◌≤◌, ◌==◌, ◌&&◌, Bool, true, false, cond, List, [], ◌∷◌, ◌++◌, length, map, drop, filter, get_or, take, sum, sum_by, count_by, nat_le, nat_lt, is_some, All, Option, Some, None, Result, Ok, Err, refl, ap, sym, subst, ◌∙◌, arith}
use Rattle.std.specs.FinMap as finite
use Rattle.std.specs.FinMap.Entries.{find}
use Rattle.std.specs.List.{AllByRecursion, flat_map, list_all}
use Rattle.std.specs.List.Sorted.{IsStrictlySortedBy}
use Rattle.std.specs.Ordering.{eq_by_cmp, nat_cmp}
use Rattle.std.specs.declared.cmp.Ordering.TheVariants.{Less, Equal, Greater}
use Rattle.std.proofs.lemmas.Bool.Decides.{nat_tests}
use Rattle.std.proofs.lemmas.List.{get_or-map, length-map, take_more}
use Rattle.std.proofs.lemmas.List.Elements.{All-from_recursion, filter-append, recursion_from_All}
use Rattle.std.proofs.lemmas.List.Sums.{sum_by-append, sum_by-cons, sum_by_more_le, sum-map}
use Rattle.std.proofs.lemmas.Map.Keys.{sorted_head, sorted_tail}
use Rattle.std.proofs.lemmas.Map.Views.{length-le_from_below}
use Rattle.std.proofs.lemmas.Nat.{mul-le}
use Rattle.std.proofs.Math.Nat.{one-le-mul}
use Rattle.work_ids.specs.Numbers.{is_pool_number}
use Rattle.work_ids.specs.declared.account.Account.{Account}
use Rattle.work_ids.specs.declared.fault.IdFault.{IdFault}
use Rattle.perf_returns.specs.Numbers.{are_plays, are_seconds, number_of_width, passing, plays_of, seconds_of}
use Rattle.perf_returns.specs.Returns.{performances_in, performances_of, records_in}
use Rattle.perf_returns.specs.Rows.{row_by, row_of, with_row}
use Rattle.perf_returns.specs.declared.performance.Performance.{Performance}
use Rattle.work_ids.specs.Isrc.{isrc_of_text}
use Rattle.pool_split.proofs.lemmas.Whole.{credits_add}
use Rattle.pool_split.specs.Credits.{units_of}
use Rattle.pool_split.specs.declared.claim.Credit.{Credit}
use Rattle.share_rules.specs.declared.office.Office.{Office}
use Rattle.society_core.specs.Accounts.{same_account}
use Rattle.society_core.specs.Book.{Book, IsSound, is_applied, order_at, return_at}
use Rattle.society_core.specs.Candidates.{CanBePaid, rows_of_return}
use Rattle.society_core.specs.Orders.{Order}
use Rattle.society_core.specs.Points.{HasPoints, points_by_recording, rows_named}
use Rattle.society_core.specs.Pools.{AreAllAccounts, IsOnceAmong, all_credits, balance, claims_of, credits_of, units_to}
use Rattle.society_core.specs.declared.return_key.ReturnKey.{ReturnKey}
use Rattle.society_core.proofs.lemmas.Ascending.{keys_ascend}
use Rattle.society_core.proofs.lemmas.CreditLemmas.{claims_payable, order_has_returns, order_reaches_cut}
use Rattle.society_core.proofs.lemmas.Fronts.{first_holds, second_holds}
use Rattle.society_core.proofs.lemmas.PointLemmas.{recordings_have_points}

-- ---- rows have points

passed : (passes : ℕ → Bool) (o : Option ℕ) (n : ℕ) → passing passes o ≡ Some n → passes n ≡ true
passed passes None n e = absurd (cc)
passed passes (Some m) n e = by_case (passes m) refl e
  where
    by_case : (b : Bool) → passes m ≡ b → cond b (Some m) None ≡ Some n → passes n ≡ true
    by_case true is e = let same : m ≡ n = cc in subst (λ (k : ℕ). passes k ≡ true) same is
    by_case false is e = absurd (cc)

points_by_limits : (row : Performance) → are_plays row.plays ≡ true → are_seconds row.seconds ≡ true → HasPoints row
points_by_limits row plays seconds =
    let least_p : 1 ≤ row.plays = at_least row.plays (first_holds (nat_le 1 row.plays) (nat_le row.plays 1000000) plays) in
    let least_s : 1 ≤ row.seconds = at_least row.seconds (first_holds (nat_le 1 row.seconds) (nat_le row.seconds 10000) seconds) in
    let most_p : row.plays ≤ 1000000 = at_most row.plays 1000000 (second_holds (nat_le 1 row.plays) (nat_le row.plays 1000000) plays) in
    let most_s : row.seconds ≤ 10000 = at_most row.seconds 10000 (second_holds (nat_le 1 row.seconds) (nat_le row.seconds 10000) seconds) in
    (one-le-mul least_p least_s, mul-le row.plays row.seconds 1000000 10000 most_p most_s)
  where
    at_least : (n : ℕ) → nat_le 1 n ≡ true → 1 ≤ n
    at_least n h = grind (arith, nat_tests)

    at_most : (n most : ℕ) → nat_le n most ≡ true → n ≤ most
    at_most n most h = grind (arith, nat_tests)

by_parts : (isrc : Result (List ℕ) IdFault) (p s : Option ℕ) (row : Performance) → ((n : ℕ) → p ≡ Some n → are_plays n ≡ true) → ((n : ℕ) → s ≡ Some n → are_seconds n ≡ true) → row_by isrc p s ≡ Ok row → HasPoints row
by_parts (Err f) p s row plays seconds e = absurd (cc)
by_parts (Ok i) None s row plays seconds e = absurd (cc)
by_parts (Ok i) (Some n) None row plays seconds e = absurd (cc)
by_parts (Ok i) (Some n) (Some m) row plays seconds e =
    let same : ◌≡◌ {A = Performance} (record { isrc = i; plays = n; seconds = m }) row = cc in
    subst HasPoints same (points_by_limits (record { isrc = i; plays = n; seconds = m }) (plays n refl) (seconds m refl))

row_has_points : (fields : List (List ℕ)) (row : Performance) → row_of fields ≡ Ok row → HasPoints row
row_has_points [] row e = absurd (cc)
row_has_points (a ∷ []) row e = absurd (cc)
row_has_points (a ∷ b ∷ []) row e = absurd (cc)
row_has_points (a ∷ b ∷ c ∷ []) row e =
    by_parts (isrc_of_text a) (plays_of b) (seconds_of c) row (λ n is. passed are_plays (number_of_width 7 b) n is) (λ n is. passed are_seconds (number_of_width 5 c) n is) e
row_has_points (a ∷ b ∷ c ∷ d ∷ more) row e = absurd (cc)

rows_have_points : (records : List (List (List ℕ))) → AllByRecursion HasPoints (performances_of records)
rows_have_points [] = tt
rows_have_points (fields ∷ more) = by_case (row_of fields) refl (rows_have_points more)
  where
    by_case : (r : Result Performance ℕ) → row_of fields ≡ r → AllByRecursion HasPoints (performances_of more) → AllByRecursion HasPoints (with_row r (performances_of more))
    by_case (Ok row) is rest = (row_has_points fields row is, rest)
    by_case (Err fault) is rest = rest

return_has_points : (body : List ℕ) → AllByRecursion HasPoints (performances_in body)
unfolding performances_in
return_has_points body = rows_have_points (drop 1 (records_in body))

all_append : {X : Type 0} (P : X → Type 0) (xs ys : List X) → AllByRecursion P xs → AllByRecursion P ys → AllByRecursion P (xs ++ ys)
all_append P [] ys a b = b
all_append P (x ∷ xs) ys a b = (a.0, all_append P xs ys a.1 b)

named_have_points : (b : Book) (keys : List ReturnKey) → AllByRecursion HasPoints (flat_map (rows_of_return b) keys)
named_have_points b [] = tt
named_have_points b (key ∷ keys) =
    all_append HasPoints (rows_of_return b key) (flat_map (rows_of_return b) keys) (return_has_points _) (named_have_points b keys)

-- ---- each pool adds up

-- the units of a pool's credits add up to its amount
pub pool_adds_up : (o : Office) (b : Book) (order : Order) → sum (map units_of (credits_of o b order)) ≡ order.amount
unfolding credits_of
pool_adds_up o b order =
    let rows = rows_named b order in
    credits_add order.amount (claims_of o b order) (claims_payable o b order (points_by_recording rows) (recordings_have_points rows (named_have_points b order.returns)))

-- the units of the credits of some pools add up to their amounts
pub pools_add_up : (o : Office) (b : Book) (orders : List Order) → sum_by units_of (flat_map (credits_of o b) orders) ≡ sum (map (λ (order : Order). order.amount) orders)
pools_add_up o b [] = refl
pools_add_up o b (order ∷ orders) =
    omega (
      arith,
      sum_by-append units_of (credits_of o b order) (flat_map (credits_of o b) orders),
      sum-map units_of (credits_of o b order),
      pool_adds_up o b order,
      pools_add_up o b orders,
      sum_by-cons (λ (n : ℕ). n) order.amount (map (λ (order : Order). order.amount) orders),
    )

-- ---- each order of a sound book can be paid

equal_here : (k : ℕ) → eq_by_cmp nat_cmp k k ≡ true
equal_here k = grind (arith, nat_tests)

-- a number that comes before another is less
pub less_than : (k j : ℕ) → nat_cmp k j ≡ Less → k < j
less_than k j e = by_case (nat_lt k j) refl e
  where
    by_equal : (b : Bool) → cond b Equal Greater ≡ Less → ⊥
    by_equal true h = cc
    by_equal false h = cc

    by_case : (b : Bool) → nat_lt k j ≡ b → cond b Less (cond (k == j) Equal Greater) ≡ Less → k < j
    by_case true is h = grind (arith, nat_tests)
    by_case false is h = absurd (by_equal (k == j) h)

apart : (k j : ℕ) → k < j → eq_by_cmp nat_cmp j k ≡ false
apart k j less = grind (arith, nat_tests)

-- an entry is found under its number
abbrev IsFound : List (ℕ × Order) → ℕ × Order → Type 0
IsFound entries entry = find nat_cmp entry.0 entries ≡ Some entry.1

found_later : (e : ℕ × Order) (all es : List (ℕ × Order)) → AllByRecursion (λ j. nat_cmp e.0 j ≡ Less) (map (λ f. f.0) es) → AllByRecursion (IsFound all) es → AllByRecursion (IsFound (e ∷ all)) es
found_later e all [] above found = tt
found_later e all (f ∷ es) above found = (
  ap (λ (b : Bool). cond b (Some e.1) (find nat_cmp f.0 all)) (apart e.0 f.0 (less_than e.0 f.0 above.0)) ∙ found.0,
  found_later e all es above.1 found.1,
)

each_found : (es : List (ℕ × Order)) → IsStrictlySortedBy nat_cmp (map (λ e. e.0) es) → AllByRecursion (IsFound es) es
each_found [] rises = tt
each_found (e ∷ es) rises = (
  ap (λ (b : Bool). cond b (Some e.1) (find nat_cmp e.0 es)) (equal_here e.0),
  found_later e es es (sorted_head nat_cmp e.0 (map (λ f. f.0) es) rises) (each_found es (sorted_tail nat_cmp e.0 (map (λ f. f.0) es) rises)),
)

pool_keys_rise : (b : Book) → IsStrictlySortedBy nat_cmp (finite.keys b.pools)
pool_keys_rise b = keys_ascend nat_cmp (finite.entries b.pools) (finite.entries_sorted b.pools)

-- what the entries of a book's pools are
abbrev pub IsPool : Book → ℕ × Order → Type 0
IsPool b entry = order_at b entry.0 ≡ Some entry.1

pools_there : (b : Book) (es : List (ℕ × Order)) → AllByRecursion (IsFound (finite.entries b.pools)) es → AllByRecursion (IsPool b) es
pools_there b [] found = tt
pools_there b (e ∷ es) found = (finite.get-entries b.pools e.0 ∙ found.0, pools_there b es found.1)

pub each_pool : (b : Book) → AllByRecursion (IsPool b) (finite.entries b.pools)
each_pool b = pools_there b (finite.entries b.pools) (each_found (finite.entries b.pools) (pool_keys_rise b))

can_be_paid : (b : Book) → IsSound b → (es : List (ℕ × Order)) → AllByRecursion (IsPool b) es → AllByRecursion (CanBePaid b) (map (λ e. e.1) es)
can_be_paid b sound [] there = tt
can_be_paid b sound (e ∷ es) there = (
  record {
    returns = order_has_returns b e.0 e.1 sound there.0;
    reached = order_reaches_cut b e.0 e.1 sound there.0;
    kept = sound.orders e.0 e.1 there.0;
  },
  can_be_paid b sound es there.1,
)

-- each order of a sound book can be paid
pub orders_can_be_paid : (b : Book) → IsSound b → All (CanBePaid b) (finite.values b.pools)
orders_can_be_paid b sound = All-from_recursion (CanBePaid b) (finite.values b.pools) (can_be_paid b sound (finite.entries b.pools) (each_pool b))

numbers_within : (b : Book) → IsSound b → (es : List (ℕ × Order)) → AllByRecursion (IsPool b) es → AllByRecursion (λ n. n < 100000) (map (λ e. e.0) es)
numbers_within b sound [] there = tt
numbers_within b sound (e ∷ es) there =
    let cuts = list_all (is_applied b) e.1.cut in
    let returns = list_all (λ (key : ReturnKey). is_some (return_at b key)) e.1.returns in
    let number : is_pool_number e.0 ≡ true = first_holds (is_pool_number e.0) cuts (first_holds (is_pool_number e.0 && cuts) returns (sound.pools e.0 e.1 there.0)) in
    (below e.0 (second_holds (nat_le 1 e.0) (nat_le e.0 99999) number), numbers_within b sound es there.1)
  where
    below : (n : ℕ) → nat_le n 99999 ≡ true → n < 100000
    below n h = grind (arith, nat_tests)

-- a sound book has fewer than 100,000 pools
pub few_pools : (b : Book) → IsSound b → length (finite.values b.pools) ≤ 100000
few_pools b sound =
    let keys = finite.keys b.pools in
    let few : length keys ≤ 100000 = length-le_from_below 100000 keys (pool_keys_rise b) (All-from_recursion (λ n. n < 100000) keys (numbers_within b sound (finite.entries b.pools) (each_pool b))) in
    omega (arith, few, length-map (finite.entries b.pools) (λ (e : ℕ × Order). e.0), length-map (finite.entries b.pools) (λ (e : ℕ × Order). e.1))

-- ---- balances

-- a part of some credits has no more units than all of them
pub part_within : (account : Account) (cs : List Credit) → units_to account cs ≤ sum (map units_of cs)
part_within account [] = omega arith
part_within account (c ∷ cs) =
    omega (arith, more (same_account c.account account), part_within account cs, sum_by-cons (λ (n : ℕ). n) (units_of c) (map units_of cs))
  where
    rest : List Credit
    rest = filter (λ credit. same_account credit.account account) cs

    more : (b : Bool) → sum_by units_of (cond b (c ∷ rest) rest) ≤ units_of c + sum_by units_of rest
    more true = omega (arith, sum_by-cons units_of c rest)
    more false = omega arith

abbrev one_if : Bool → ℕ → ℕ
one_if b n = cond b n 0

-- a credit adds to the accounts that are its own
units_more : (account : Account) (c : Credit) (cs : List Credit) → units_to account (c ∷ cs) ≡ one_if (same_account c.account account) (units_of c) + units_to account cs
units_more account c cs = by_case (same_account c.account account)
  where
    rest : List Credit
    rest = filter (λ credit. same_account credit.account account) cs

    by_case : (b : Bool) → sum_by units_of (cond b (c ∷ rest) rest) ≡ one_if b (units_of c) + sum_by units_of rest
    by_case true = sum_by-cons units_of c rest
    by_case false = omega arith

none_to : (accounts : List Account) → sum_by (λ account. units_to account []) accounts ≡ 0
none_to [] = refl
none_to (a ∷ accounts) = omega (arith, sum_by-cons (λ account. units_to account []) a accounts, none_to accounts)

-- over some accounts a credit counts as often as its own is among them
counted : (c : Credit) (accounts : List Account) → sum_by (λ account. one_if (same_account c.account account) (units_of c)) accounts ≡ count_by (same_account c.account) accounts * units_of c
counted c [] = omega arith
counted c (a ∷ accounts) =
    omega (
      arith,
      sum_by-cons (λ account. one_if (same_account c.account account) (units_of c)) a accounts,
      once (same_account c.account a),
      ap (λ (n : ℕ). n * units_of c) (sum_by-cons (λ account. cond (same_account c.account account) 1 0) a accounts),
      counted c accounts,
    )
  where
    once : (b : Bool) → cond b (units_of c) 0 + count_by (same_account c.account) accounts * units_of c ≡ (cond b 1 0 + count_by (same_account c.account) accounts) * units_of c
    once true = omega arith
    once false = omega arith

to_all_more : (c : Credit) (cs : List Credit) (accounts : List Account) → sum_by (λ account. units_to account (c ∷ cs)) accounts ≡ sum_by (λ account. one_if (same_account c.account account) (units_of c)) accounts + sum_by (λ account. units_to account cs) accounts
to_all_more c cs [] = refl
to_all_more c cs (a ∷ accounts) =
    omega (
      arith,
      sum_by-cons (λ account. units_to account (c ∷ cs)) a accounts,
      sum_by-cons (λ account. one_if (same_account c.account account) (units_of c)) a accounts,
      sum_by-cons (λ account. units_to account cs) a accounts,
      units_more a c cs,
      to_all_more c cs accounts,
    )

-- where each credit's account is once among some accounts, these have all units
pub all_units : (accounts : List Account) (cs : List Credit) → AllByRecursion (IsOnceAmong accounts) cs → sum_by (λ account. units_to account cs) accounts ≡ sum_by units_of cs
all_units accounts [] once = none_to accounts
all_units accounts (c ∷ cs) once =
    let mine : count_by (same_account c.account) accounts * units_of c ≡ 1 * units_of c = ap (λ (n : ℕ). n * units_of c) once.0 in
    omega (arith, to_all_more c cs accounts, counted c accounts, mine, all_units accounts cs once.1, sum_by-cons units_of c cs)

-- all balances add up to the amounts of all pools
pub balances_sum : (o : Office) (b : Book) (accounts : List Account) → AreAllAccounts o b accounts → sum (map (balance o b) accounts) ≡ sum (map (λ (order : Order). order.amount) (finite.values b.pools))
balances_sum o b accounts all =
    sum-map (balance o b) accounts ∙ all_units accounts (all_credits o b) (recursion_from_All (IsOnceAmong accounts) (all_credits o b) all) ∙ pools_add_up o b (finite.values b.pools)

-- ---- on the way through the pools

module _ {Y : Type 0} (order_of : Y → Order) where
  -- an order among those of a sound book can be paid
  pub paid_at : (b : Book) → IsSound b → (items : List Y) → map order_of items ≡ finite.values b.pools → (i : ℕ) (y : Y) → i < length items → y ≡ get_or items i y → CanBePaid b (order_of y)
  paid_at b sound items same i y within is =
      let low : i < length (finite.values b.pools) = omega (arith, within, length-map items order_of, ap length same) in
      let here : get_or (finite.values b.pools) i (order_of y) ≡ order_of y = ap (λ (os : List Order). get_or os i (order_of y)) (sym same) ∙ get_or-map order_of items i y (order_of y) within ∙ ap order_of (sym is) in
      subst (CanBePaid b) here (orders_can_be_paid b sound i (order_of y) low)

  -- the credits of orders that are reached through others
  pub credits_through : (credits : Order → List Credit) (items : List Y) → flat_map (λ y. credits (order_of y)) items ≡ flat_map credits (map order_of items)
  credits_through credits [] = refl
  credits_through credits (y ∷ items) = ap (λ (cs : List Credit). credits (order_of y) ++ cs) (credits_through credits items)

-- the units to an account of credits behind others
units_append : (account : Account) (cs ds : List Credit) → units_to account (cs ++ ds) ≡ units_to account cs + units_to account ds
units_append account cs ds =
    ap (sum_by units_of) (filter-append (λ credit. same_account credit.account account) cs ds)
    ∙ sum_by-append units_of (filter (λ credit. same_account credit.account account) cs) (filter (λ credit. same_account credit.account account) ds)

units_pushed : {Y : Type 0} (account : Account) (credits : Y → List Credit) (ys : List Y) (y : Y) → units_to account (flat_map credits (ys ++ y ∷ [])) ≡ units_to account (flat_map credits ys) + units_to account (credits y)
units_pushed account credits [] y = units_append account (credits y) [] ∙ omega arith
units_pushed account credits (x ∷ ys) y =
    omega (
      arith,
      units_append account (credits x) (flat_map credits (ys ++ y ∷ [])),
      units_append account (credits x) (flat_map credits ys),
      units_pushed account credits ys y,
    )

-- one pool more adds its units
pub units_next : {Y : Type 0} (account : Account) (credits : Y → List Credit) (items : List Y) (i : ℕ) (y : Y) → i < length items → y ≡ get_or items i y → units_to account (flat_map credits (take (i + 1) items)) ≡ units_to account (flat_map credits (take i items)) + units_to account (credits y)
units_next account credits items i y within is =
    ap (λ ys. units_to account (flat_map credits ys)) (take_more items i y within ∙ ap (λ x. take i items ++ x ∷ []) (sym is))
    ∙ units_pushed account credits (take i items) y

-- ---- on the way through the credits of a pool

-- one credit of the account more adds its units
pub credit_next : (account : Account) (cs : List Credit) (i : ℕ) (c : Credit) (mine : Bool) → i < length cs → c ≡ get_or cs i c → same_account c.account account ≡ mine → units_to account (take (i + 1) cs) ≡ units_to account (take i cs) + cond mine c.units 0
credit_next account cs i c mine within is same =
    ap (units_to account) (take_more cs i c within ∙ ap (λ x. take i cs ++ x ∷ []) (sym is))
    ∙ units_append account (take i cs) (c ∷ [])
    ∙ ap (λ (n : ℕ). units_to account (take i cs) + n) (units_more account c [] ∙ ap (λ (b : Bool). one_if b (units_of c) + units_to account []) same ∙ plain mine)
  where
    plain : (b : Bool) → one_if b (units_of c) + units_to account [] ≡ cond b c.units 0
    plain true = omega arith
    plain false = omega arith

-- and what has come so far with the next credit is within all of them
pub credit_within : (account : Account) (cs : List Credit) (i : ℕ) (c : Credit) → i < length cs → c ≡ get_or cs i c → units_to account (take i cs) + c.units ≤ sum (map units_of cs)
credit_within account cs i c within is =
    let units : c.units ≡ units_of (get_or cs i c) = ap units_of is in
    omega (arith, units, part_within account (take i cs), sum-map units_of (take i cs), sum_by_more_le units_of cs i c within, sum-map units_of cs)
