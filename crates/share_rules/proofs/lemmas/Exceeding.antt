-- Sums of shares that are added up holder by holder, until one is more than the limit.
use Rattle.std.proofs.Common.{◌≡◌, ℕ, zero, suc, [], List, Option, None, ◌+◌, ◌<◌, Bool, true, ◌||◌, nat_lt, ◌∷◌, length, get_or, drop, map, Some, add-zero, add_comm, sym, ap, refl, ◌∙◌, arith, add_assoc}
use Rattle.cwr_records.specs.declared.record.Record.{Record}
use Rattle.std.proofs.lemmas.List.{at_drop_more}
use Rattle.share_rules.specs.Blocks.{collected_behind, collected_in, totals_of}
use Rattle.share_rules.specs.Parties.{Interest, collected, interests, party_in, with_interest}
use Rattle.share_rules.specs.declared.party.InterestedParty.{InterestedParty}
use Rattle.std.specs.List.{sum}
use Rattle.std.proofs.lemmas.List.Sums.{sum_by-cons}
use Rattle.std.proofs.lemmas.Bool.Decides.{nat_tests}
use Rattle.share_rules.specs.Fault.{sum_limit}
use Rattle.share_rules.specs.Steps.{is_exceeded, with_shares}
use Rattle.share_rules.specs.declared.office.Office.{Office}
use Rattle.share_rules.specs.declared.shares.Shares.{Shares}
use Rattle.share_rules.specs.declared.totals.Totals.{Totals}

-- the shares of a right, beside those added up before, are more than the limit
abbrev pub exceed_beside : Totals → List Shares → Bool
exceed_beside totals shares =
    nat_lt sum_limit (totals.performing + sum (map (λ s. s.performing) shares)) || nat_lt sum_limit (totals.mechanical + sum (map (λ s. s.mechanical) shares)) || nat_lt sum_limit (totals.synchronization + sum (map (λ s. s.synchronization) shares))

regrouped : (limit a b c p q r x y z : ℕ) → (nat_lt limit (a + (p + x)) || nat_lt limit (b + (q + y)) || nat_lt limit (c + (r + z))) ≡ (nat_lt limit ((a + p) + x) || nat_lt limit ((b + q) + y) || nat_lt limit ((c + r) + z))
regrouped limit a b c p q r x y z = simp add_assoc

one_over : (limit a b c x y z : ℕ) → (nat_lt limit a || nat_lt limit b || nat_lt limit c) ≡ true → (nat_lt limit (a + x) || nat_lt limit (b + y) || nat_lt limit (c + z)) ≡ true
one_over limit a b c x y z h = grind (arith, nat_tests)

sum-cons : (x : ℕ) (xs : List ℕ) → sum (x ∷ xs) ≡ x + sum xs
sum-cons x xs = sum_by-cons (λ (n : ℕ). n) x xs

pub beside_more : (totals : Totals) (s : Shares) (shares : List Shares) → exceed_beside totals (s ∷ shares) ≡ exceed_beside (with_shares totals s) shares
beside_more totals s shares =
    let p = sum-cons s.performing (map (λ s. s.performing) shares) in
    let m = sum-cons s.mechanical (map (λ s. s.mechanical) shares) in
    let y = sum-cons s.synchronization (map (λ s. s.synchronization) shares) in
    let e = regrouped sum_limit totals.performing totals.mechanical totals.synchronization s.performing s.mechanical s.synchronization (sum (map (λ s. s.performing) shares)) (sum (map (λ s. s.mechanical) shares)) (sum (map (λ s. s.synchronization) shares)) in
    cc

pub beside_over : (totals : Totals) (shares : List Shares) → is_exceeded totals ≡ true → exceed_beside totals shares ≡ true
beside_over totals shares h =
    one_over sum_limit totals.performing totals.mechanical totals.synchronization (sum (map (λ s. s.performing) shares)) (sum (map (λ s. s.mechanical) shares)) (sum (map (λ s. s.synchronization) shares)) h

-- a record that is an interested party adds its shares, whichever they are
pub beside_party : (f : Interest → Shares) (totals : Totals) (rs : List Record) (i : ℕ) (r : Record) (party : InterestedParty) → i < length rs → r ≡ get_or rs i r → Some party ≡ party_in r → exceed_beside totals (map f (interests (drop i rs))) ≡ exceed_beside (with_shares totals (f (record { party = party; after = drop (i + 1) rs }))) (map f (interests (drop (i + 1) rs)))
beside_party f totals rs i r party h at is =
    let d = at_drop_more (λ (ys : List Record). exceed_beside totals (map f (interests ys))) rs i r h in
    let e : exceed_beside totals (map f (interests (r ∷ drop (i + 1) rs))) ≡ exceed_beside totals (f (record { party = party; after = drop (i + 1) rs }) ∷ map f (interests (drop (i + 1) rs))) = rw (← is) refl in
    d ∙ rw (← at) e ∙ beside_more totals (f (record { party = party; after = drop (i + 1) rs })) (map f (interests (drop (i + 1) rs)))

-- the sums of the shares from a place on
abbrev pub sums_from : (Interest → Shares) → List Record → ℕ → Totals
sums_from f rs place = totals_of (map f (interests (drop place rs)))

more_over : (limit a b c x y z : ℕ) → (nat_lt limit x || nat_lt limit y || nat_lt limit z) ≡ true → (nat_lt limit (a + x) || nat_lt limit (b + y) || nat_lt limit (c + z)) ≡ true
more_over limit a b c x y z h = grind (arith, nat_tests)

with_front_over : (f : Interest → Shares) (o : Option InterestedParty) (after : List Record) → is_exceeded (totals_of (map f (interests after))) ≡ true → is_exceeded (totals_of (map f (with_interest o after (interests after)))) ≡ true
with_front_over f None after h = h
with_front_over f (Some party) after h =
    let s = f (record { party = party; after = after }) in
    let shares = map f (interests after) in
    let p = sum-cons s.performing (map (λ (s : Shares). s.performing) shares) in
    let m = sum-cons s.mechanical (map (λ (s : Shares). s.mechanical) shares) in
    let y = sum-cons s.synchronization (map (λ (s : Shares). s.synchronization) shares) in
    let over = more_over sum_limit s.performing s.mechanical s.synchronization (sum (map (λ (s : Shares). s.performing) shares)) (sum (map (λ (s : Shares). s.mechanical) shares)) (sum (map (λ (s : Shares). s.synchronization) shares)) h in
    cc

-- what exceeds from a place on exceeds as a whole
pub exceeds_from : (f : Interest → Shares) (rs : List Record) (place : ℕ) → is_exceeded (sums_from f rs place) ≡ true → is_exceeded (totals_of (map f (interests rs))) ≡ true
exceeds_from f rs zero h = h
exceeds_from f [] (suc place) h = h
exceeds_from f (r ∷ rs) (suc place) h = with_front_over f (party_in r) rs (exceeds_from f rs place h)

totals_are : (a b c p q r : ℕ) → a ≡ p → b ≡ q → c ≡ r → ◌≡◌ {A = Totals} (record { performing = a; mechanical = b; synchronization = c }) (record { performing = p; mechanical = q; synchronization = r })
totals_are a b c p q r d e f =
    ap (λ (x : ℕ). let t : Totals = record { performing = x; mechanical = b; synchronization = c } in t) d
    ∙ ap (λ (x : ℕ). let t : Totals = record { performing = p; mechanical = x; synchronization = c } in t) e
    ∙ ap (λ (x : ℕ). let t : Totals = record { performing = p; mechanical = q; synchronization = x } in t) f

in_front : (office : Office) (o : Option InterestedParty) (after : List Record) → totals_of (map (collected office) (with_interest o after (interests after))) ≡ with_shares (totals_of (map (collected office) (interests after))) (collected_in office o after)
in_front office None after = totals_are _ _ _ _ _ _ (sym (add-zero _)) (sym (add-zero _)) (sym (add-zero _))
in_front office (Some party) after =
    let s = collected office (record { party = party; after = after }) in
    let shares = map (collected office) (interests after) in
    totals_are _ _ _ _ _ _
    (sum-cons s.performing (map (λ (s : Shares). s.performing) shares) ∙ add_comm _ _)
    (sum-cons s.mechanical (map (λ (s : Shares). s.mechanical) shares) ∙ add_comm _ _)
    (sum-cons s.synchronization (map (λ (s : Shares). s.synchronization) shares) ∙ add_comm _ _)

-- a record in front of others adds what it collects
pub sums_front : (office : Office) (rs : List Record) (i : ℕ) (r : Record) → i < length rs → r ≡ get_or rs i r → collected_behind office rs i ≡ with_shares (collected_behind office rs (i + 1)) (collected_in office (party_in r) (drop (i + 1) rs))
sums_front office rs i r h at =
    at_drop_more (λ (ys : List Record). totals_of (map (collected office) (interests ys))) rs i r h
    ∙ ap (λ (x : Record). totals_of (map (collected office) (interests (x ∷ drop (i + 1) rs)))) (sym at)
    ∙ in_front office (party_in r) (drop (i + 1) rs)
