-- Claims of which each is below the next ascend, and the other way round.
use Rattle.std.proofs.Common.{◌≡◌, ℕ, ◌+◌, ◌<◌, ◌≤◌, List, [], ◌∷◌, ap, arith, get_or, length, map, subst₂, sym, ◌∙◌}
use Rattle.std.specs.Cmp.Lexicographic.{slice_cmp}
use Rattle.std.specs.List.Sorted.{IsStrictlySortedBy}
use Rattle.std.specs.Ordering.{nat_cmp}
use Rattle.std.specs.declared.cmp.Ordering.TheVariants.{Less}
use Rattle.std.proofs.lemmas.Cmp.{nat_list_cmp_total}
use Rattle.std.proofs.lemmas.List.{get_or-map, length-map}
use Rattle.std.proofs.lemmas.Map.Keys.{Less-from_sorted, sorted_from_all_adjacent}
use Rattle.pool_split.specs.Credits.{Ascend}
use Rattle.pool_split.specs.declared.claim.Claim.{Claim}

abbrev isrc_of : Claim → List ℕ
isrc_of claim = claim.isrc

-- the ISRC of one claim is below that of another
abbrev IsBelow : Claim → Claim → Type 0
IsBelow earlier later = slice_cmp nat_cmp earlier.isrc later.isrc ≡ Less

-- each of so many claims is below the one behind it
abbrev pub AreBelowNext : List Claim → ℕ → Type 0
AreBelowNext claims n = (k : ℕ) → k < n → (d : Claim) → IsBelow (get_or claims k d) (get_or claims (k + 1) d)

-- the empty list ascends
none_ascends : IsStrictlySortedBy (slice_cmp nat_cmp) []
unfolding IsStrictlySortedBy
none_ascends = tt

-- claims ascend where each but the last is below the one behind it
pub ascend_by_neighbours : (claims : List Claim) (n : ℕ) → length claims ≤ n + 1 → AreBelowNext claims n → Ascend claims
ascend_by_neighbours [] n all below = none_ascends
ascend_by_neighbours (claim ∷ claims) n all below =
    let list = claim ∷ claims in
    let size : length (map isrc_of list) ≡ length list = length-map list isrc_of in
    sorted_from_all_adjacent nat_list_cmp_total (map isrc_of list) claim.isrc (λ k within.
    subst₂ (λ (x y : List ℕ). slice_cmp nat_cmp x y ≡ Less)
    (sym (get_or-map isrc_of list k claim claim.isrc (omega arith)))
    (sym (get_or-map isrc_of list (k + 1) claim claim.isrc (omega arith)))
    (below k (omega arith) claim))

-- of claims that ascend each is below those behind it
pub below_from_ascend : (claims : List Claim) (i j : ℕ) (a b : Claim) → Ascend claims → i < j → j < length claims → a ≡ get_or claims i a → b ≡ get_or claims j b → IsBelow a b
below_from_ascend claims i j a b ascend before within first second =
    let size : length (map isrc_of claims) ≡ length claims = length-map claims isrc_of in
    subst₂ (λ (x y : List ℕ). slice_cmp nat_cmp x y ≡ Less)
    (get_or-map isrc_of claims i a a.isrc (omega arith) ∙ ap isrc_of (sym first))
    (get_or-map isrc_of claims j b a.isrc within ∙ ap isrc_of (sym second))
    (Less-from_sorted (slice_cmp nat_cmp) (map isrc_of claims) i j a.isrc ascend before (omega arith))
