-- What a table of candidates' places says of each recording.
use Rattle.std.proofs.Common.{◌≡◌, ℕ, ◌+◌, Bool, true, false, cond, List, [], ◌∷◌, ◌++◌, length, map, Option, Some, None, slice_get, is_some, option_map, Bor, refl, ap, sym, subst, ◌∙◌, arith, length-append, append_assoc, append-nil}
use Rattle.std.proofs.lemmas.Option.{slice_get-get_or, slice_get_past}
use Rattle.std.specs.BTreeMap as tree
use Rattle.std.specs.BTreeMap.{BTreeMap}
use Rattle.std.specs.List.{AllByRecursion, enumerate_from, filter}
use Rattle.std.specs.Ordering.{eq_by_cmp}
use Rattle.std.specs.Slice.{IsItemAt}
use Rattle.std.specs.Str.{bytes_eq}
use Rattle.std.proofs.lemmas.Map.Text.{is_eq-slice_cmp}
use Rattle.std.proofs.lemmas.Slice.Eq.{bytes_eq-Decides}
use Rattle.society_core.specs.Claims.{Indexes, found_of, is_candidate_for, places_for, sole_candidate}
use Rattle.society_core.specs.Keys.{bytes_cmp}
use Rattle.society_core.specs.Owners.{sole}
use Rattle.society_core.specs.declared.claim_list.Candidate.{Candidate}
use Rattle.society_core.specs.declared.claim_list.Found.{Found}
use Rattle.society_core.specs.declared.claim_list.Found.TheVariants.{Only, Several}

-- the candidates for a recording with their places, of a list that begins at a place
abbrev placed_for : ℕ → List Candidate → List ℕ → List (ℕ × Candidate)
placed_for n candidates isrc = filter (λ placed. is_candidate_for isrc placed.1) (enumerate_from n candidates)

-- one more candidate of a recording, at a place
abbrev pub added : ℕ → Option Found → Found
added place None = Only place
added place (Some found) = Several

-- one more place
found_of_more : (ps : List ℕ) (p : ℕ) → found_of (ps ++ p ∷ []) ≡ Some (added p (found_of ps))
found_of_more [] p = refl
found_of_more (a ∷ []) p = refl
found_of_more (a ∷ b ∷ more) p = refl

-- one more candidate
places_more : (n m : ℕ) (xs : List Candidate) (x : Candidate) (q : List ℕ) → m ≡ n + length xs →
    map (λ (e : ℕ × Candidate). e.0) (placed_for n (xs ++ x ∷ []) q) ≡ map (λ (e : ℕ × Candidate). e.0) (placed_for n xs q) ++ cond (bytes_eq x.isrc q) (m ∷ []) []
places_more n m [] x q e =
    let same : n ≡ m = omega arith in
    elim (bytes_eq x.isrc q) as (λ b. map (λ (e : ℕ × Candidate). e.0) (cond b ((n, x) ∷ []) []) ≡ cond b (m ∷ []) []) [
      | true ↦ ap (λ (k : ℕ). k ∷ []) same
      | false ↦ refl
    ]
places_more n m (y ∷ ys) x q e =
    let after : m ≡ (n + 1) + length ys = omega arith in
    let rest = places_more (n + 1) m ys x q after in
    elim (bytes_eq y.isrc q) as (λ b. map (λ (e : ℕ × Candidate). e.0) (cond b ((n, y) ∷ placed_for (n + 1) (ys ++ x ∷ []) q) (placed_for (n + 1) (ys ++ x ∷ []) q)) ≡ map (λ (e : ℕ × Candidate). e.0) (cond b ((n, y) ∷ placed_for (n + 1) ys q) (placed_for (n + 1) ys q)) ++ cond (bytes_eq x.isrc q) (m ∷ []) []) [
      | true ↦ ap (λ (r : List ℕ). n ∷ r) rest
      | false ↦ rest
    ]

-- what the table has to say once one more candidate has come
pub found_more : (xs : List Candidate) (x : Candidate) (q : List ℕ) →
    found_of (places_for (xs ++ x ∷ []) q) ≡ cond (bytes_eq x.isrc q) (Some (added (length xs) (found_of (places_for xs q)))) (found_of (places_for xs q))
found_more xs x q =
    ap found_of (places_more 0 (length xs) xs x q (omega arith))
    ∙ (elim (bytes_eq x.isrc q) as (λ b. found_of (places_for xs q ++ cond b (length xs ∷ []) []) ≡ cond b (Some (added (length xs) (found_of (places_for xs q)))) (found_of (places_for xs q))) [
      | true ↦ found_of_more (places_for xs q) (length xs)
      | false ↦ ap found_of (append-nil (places_for xs q))
    ])

at_length : {X : Type 0} (before : List X) (x : X) (xs : List X) → slice_get (before ++ x ∷ xs) (length before) ≡ Some x
at_length [] x xs = refl
at_length (y ∷ before) x xs = at_length before x xs

-- a candidate stands at its place
stand : (q : List ℕ) (before xs : List Candidate) (n : ℕ) → n ≡ length before →
    AllByRecursion (λ (e : ℕ × Candidate). slice_get (before ++ xs) e.0 ≡ Some e.1) (placed_for n xs q)
stand q before [] n e = tt
stand q before (x ∷ xs) n e =
    let more : n + 1 ≡ length (before ++ x ∷ []) = omega (arith, length-append before (x ∷ [])) in
    let rest : AllByRecursion (λ (p : ℕ × Candidate). slice_get (before ++ x ∷ xs) p.0 ≡ Some p.1) (placed_for (n + 1) xs q) =
    subst (λ (zs : List Candidate). AllByRecursion (λ (p : ℕ × Candidate). slice_get zs p.0 ≡ Some p.1) (placed_for (n + 1) xs q)) (append_assoc before (x ∷ []) xs) (stand q (before ++ x ∷ []) xs (n + 1) more) in
    elim (bytes_eq x.isrc q) as (λ b. AllByRecursion (λ (p : ℕ × Candidate). slice_get (before ++ x ∷ xs) p.0 ≡ Some p.1) (cond b ((n, x) ∷ placed_for (n + 1) xs q) (placed_for (n + 1) xs q))) [
      | true ↦ (subst (λ (k : ℕ). slice_get (before ++ x ∷ xs) k ≡ Some x) (sym e) (at_length before x xs), rest)
      | false ↦ rest
    ]

candidates_placed : (q : List ℕ) (n : ℕ) (xs : List Candidate) → filter (is_candidate_for q) xs ≡ map (λ (e : ℕ × Candidate). e.1) (placed_for n xs q)
candidates_placed q n [] = refl
candidates_placed q n (x ∷ xs) =
    elim (bytes_eq x.isrc q) as (λ b. cond b (x ∷ filter (is_candidate_for q) xs) (filter (is_candidate_for q) xs) ≡ map (λ (e : ℕ × Candidate). e.1) (cond b ((n, x) ∷ placed_for (n + 1) xs q) (placed_for (n + 1) xs q))) [
      | true ↦ ap (λ (r : List Candidate). x ∷ r) (candidates_placed q (n + 1) xs)
      | false ↦ candidates_placed q (n + 1) xs
    ]

-- the candidate that is looked up by what was found
abbrev pub looked_up : List Candidate → Option Found → Option Candidate
looked_up xs None = None
looked_up xs (Some (Only place)) = slice_get xs place
looked_up xs (Some Several) = None

sole_placed : (xs : List Candidate) (es : List (ℕ × Candidate)) → AllByRecursion (λ (e : ℕ × Candidate). slice_get xs e.0 ≡ Some e.1) es →
    sole (map (λ (e : ℕ × Candidate). e.1) es) ≡ looked_up xs (found_of (map (λ (e : ℕ × Candidate). e.0) es))
sole_placed xs [] h = refl
sole_placed xs (e ∷ []) h = sym h.0
sole_placed xs (e ∷ f ∷ more) h = refl

-- the only candidate is the one at the only place
pub sole_is_looked_up : (xs : List Candidate) (q : List ℕ) → sole_candidate xs q ≡ looked_up xs (found_of (places_for xs q))
sole_is_looked_up xs q = ap sole (candidates_placed q 0 xs) ∙ sole_placed xs (placed_for 0 xs q) (stand q [] xs 0 refl)

-- what joins a place is that there are several, or that it is the only one
pub added_several : (place : ℕ) (known : Option Found) → is_some known ≡ true → Several ≡ added place known
added_several place None h = absurd (cc)
added_several place (Some found) h = refl

pub added_only : (place : ℕ) (known : Option Found) → is_some known ≡ false → Only place ≡ added place known
added_only place None h = refl
added_only place (Some found) h = absurd (cc)

-- a table in which one more candidate has its place
pub table_more : (old new : BTreeMap (List ℕ) Found) (xs : List Candidate) (x : Candidate) (known : Found) → Indexes old xs → known ≡ added (length xs) (tree.get bytes_cmp old x.isrc) → ((q : List ℕ) → tree.get bytes_cmp new q ≡ cond (eq_by_cmp bytes_cmp x.isrc q) (Some known) (tree.get bytes_cmp old q)) → Indexes new (xs ++ x ∷ [])
table_more old new xs x known before is updates q =
    let P : Bool → Type 0 = λ b. bytes_eq x.isrc q ≡ b → cond b (Some known) (tree.get bytes_cmp old q) ≡ cond b (Some (added (length xs) (found_of (places_for xs q)))) (found_of (places_for xs q)) in
    let at : (b : Bool) → P b = elim [
      | true ↦ λ e. ap (λ (f : Found). Some f) (is ∙ ap (added (length xs)) (before x.isrc ∙ ap (λ (r : List ℕ). found_of (places_for xs r)) ((bytes_eq-Decides x.isrc q).0 e)))
      | false ↦ λ e. before q
    ] in
    updates q
    ∙ ap (λ (b : Bool). cond b (Some known) (tree.get bytes_cmp old q)) (is_eq-slice_cmp x.isrc q)
    ∙ at (bytes_eq x.isrc q) refl
    ∙ sym (found_more xs x q)

-- what `get` of a slice gives
pub got_item : {X : Type 0} (xs : List X) (i : ℕ) (r : Option (Bor X)) → IsItemAt xs i r → option_map (λ (x : Bor X). x.now) r ≡ slice_get xs i
got_item xs i None h = sym (slice_get_past xs i h.3)
got_item xs i (Some x) h = sym (slice_get-get_or xs i x.now h.3.0 ∙ ap (λ y. Some y) (sym h.1))
