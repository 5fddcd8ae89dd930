-- The weights of a transaction without a fault.
use Rattle.std.proofs.Common.{◌≡◌, ℕ, zero, suc, ◌+◌, ◌-◌, ◌<◌, ◌≤◌, Bool, true, false, ◌||◌, List, [], ◌∷◌, ◌++◌, Option, Some, None, if◌then◌else◌, get_or, length, map, max, nat_lt, refl, sym, ap, ◌∙◌, arith}
use Rattle.std.specs.List.{sum}
use Rattle.std.proofs.lemmas.Bool.{false≢true}
use Rattle.std.proofs.lemmas.Bool.Decides.{nat_tests}
use Rattle.std.proofs.lemmas.List.{map_push}
use Rattle.std.proofs.lemmas.List.Sums.{sum_by_push}
use Rattle.cwr_files.specs.declared.transmission.Transaction.{Transaction}
use Rattle.cwr_files.specs.Sentences.{Sentence, first_that_holds, sentence}
use Rattle.share_rules.specs.Fault.{collects_too_much, fault_of, sentences, sum_limit}
use Rattle.share_rules.specs.Parties.{Interest, collected, interests, share_in}
use Rattle.share_rules.specs.Weights.{AreWholeWeights, holder_of, total, unclaimed_beside, weights_of, whole_right}
use Rattle.share_rules.specs.declared.holder.Holder.{Holder}
use Rattle.share_rules.specs.declared.kind.Kind.{Kind}
use Rattle.share_rules.specs.declared.kind.Kind.TheVariants.{Performing, Mechanical}
use Rattle.share_rules.specs.declared.office.Office.{Office}

none_is_none : (k : ℕ) → ◌≡◌ {A = Option ℕ} None (Some k) → ⊥
none_is_none k e = cc

-- where there is no first fault, no sentence holds
pub none_holds : (all : List Sentence) (k : ℕ) (d : Sentence) → first_that_holds all ≡ None → k < length all → (get_or all k d).holds ≡ false
none_holds [] k d e h = absurd (omega arith)
none_holds (s ∷ more) k d e h = by_case s.holds refl k h e (λ j none low. none_holds more j d none low)
  where
    by_case : (b : Bool) → s.holds ≡ b → (k : ℕ) → k < length (s ∷ more) → (if b then Some s.fault else first_that_holds more) ≡ None → ((j : ℕ) → first_that_holds more ≡ None → j < length more → (get_or more j d).holds ≡ false) → (get_or (s ∷ more) k d).holds ≡ false
    by_case true is k h none recur = absurd (none_is_none s.fault (sym none))
    by_case false is zero h none recur = is
    by_case false is (suc k) h none recur = recur k none (omega arith)

-- the collection shares of a transaction without a fault do not add up to more than the limit
pub clean_collects : (office : Office) (t : Transaction) → fault_of office t ≡ None → collects_too_much office t.records ≡ false
unfolding fault_of
clean_collects office t e = none_holds (sentences office t) 7 (sentence 0 false) e (omega arith)

not_one : (a b c : Bool) → (a || b || c) ≡ false → a ≡ false
not_one true b c e = absurd (false≢true (sym e))
not_one false b c e = refl

not_two : (a b c : Bool) → (a || b || c) ≡ false → b ≡ false
not_two true b c e = absurd (false≢true (sym e))
not_two false b c e = not_one b c false (two_of b c e)
  where
    two_of : (b c : Bool) → (b || c) ≡ false → (b || c || false) ≡ false
    two_of true c e = absurd (false≢true (sym e))
    two_of false true e = absurd (false≢true (sym e))
    two_of false false e = refl

low : (n : ℕ) → nat_lt sum_limit n ≡ false → n ≤ sum_limit
low n e = grind (arith, nat_tests)

weights_are : (right : Kind) (sender : List ℕ) (office : Office) (is : List Interest) → map (λ (h : Holder). h.weight) (map (holder_of right sender office) is) ≡ map (share_in right) (map (collected office) is)
weights_are right sender office [] = refl
weights_are right sender office (i ∷ more) = ap (λ (ws : List ℕ). share_in right (collected office i) ∷ ws) (weights_are right sender office more)

-- a transaction without a fault collects in no right more than the limit
clean_in : (right : Kind) (office : Office) (t : Transaction) → fault_of office t ≡ None → sum (map (share_in right) (map (collected office) (interests t.records))) ≤ sum_limit
clean_in Performing office t e = low _ (not_one _ _ _ (clean_collects office t e))
clean_in Mechanical office t e = low _ (not_two _ _ _ (clean_collects office t e))

-- a transaction without a fault has weights of the whole, or up to what is let pass
pub clean_is_whole : (right : Kind) (sender : List ℕ) (office : Office) (t : Transaction) → fault_of office t ≡ None → AreWholeWeights (weights_of right sender office t)
unfolding weights_of
clean_is_whole right sender office t e =
    let holders = map (holder_of right sender office) (interests t.records) in
    let claimed = ap sum (weights_are right sender office (interests t.records)) in
    let most = clean_in right office t e in
    let rest = unclaimed_beside holders in
    let all : total (holders ++ rest ∷ []) ≡ total holders + (max whole_right (total holders) - total holders) =
    ap sum (map_push (λ (h : Holder). h.weight) holders rest) ∙ sum_by_push (λ (n : ℕ). n) (map (λ (h : Holder). h.weight) holders) rest.weight in
    (omega (arith, all), omega (arith, all, claimed, most))
