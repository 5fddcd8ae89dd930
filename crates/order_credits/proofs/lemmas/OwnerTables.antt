-- What a table of the only candidates' places says of each recording.
use Rattle.std.proofs.Common.{◌≡◌, ℕ, zero, suc, Bool, true, false, cond, List, [], ◌∷◌, ◌++◌, length, Option, Some, None, is_some, slice_get, refl, ap, sym, subst, ◌∙◌, append-nil}
use Rattle.std.proofs.lemmas.List.Elements.{filter-append}
use Rattle.std.specs.BTreeMap as tree
use Rattle.std.specs.BTreeMap.{BTreeMap}
use Rattle.std.specs.List.{filter}
use Rattle.std.specs.Ordering.{eq_by_cmp}
use Rattle.std.specs.Str.{bytes_eq}
use Rattle.std.proofs.lemmas.Bool.{false≢true}
use Rattle.std.proofs.lemmas.Map.Text.{is_eq-slice_cmp}
use Rattle.std.proofs.lemmas.Slice.Eq.{bytes_eq-Decides}
use Rattle.society_core.specs.Claims.{is_candidate_for}
use Rattle.society_core.specs.Keys.{bytes_cmp}
use Rattle.society_core.specs.Owners.{sole}
use Rattle.society_core.specs.declared.claim_list.Candidate.{Candidate}
use Rattle.order_credits.specs.Looked.{KeepsOwners, KeptAs}

-- what stands at a place stands there with one element more
pub got_before : {X : Type 0} (xs : List X) (x c : X) (p : ℕ) → slice_get xs p ≡ Some c → slice_get (xs ++ x ∷ []) p ≡ Some c
got_before [] x c p is = absurd (cc)
got_before (y ∷ ys) x c zero is = is
got_before (y ∷ ys) x c (suc p) is = got_before ys x c p is

-- and that one stands behind all others
pub got_last : {X : Type 0} (xs : List X) (x : X) → slice_get (xs ++ x ∷ []) (length xs) ≡ Some x
got_last [] x = refl
got_last (y ∷ ys) x = got_last ys x

-- of what is kept, with one candidate more: the first, or one of several
kept_more : (xs ys : List Candidate) (x : Candidate) (known : Option (Option ℕ)) → KeptAs xs known ys → KeptAs (xs ++ x ∷ []) known ys
kept_more xs ys x None is = is
kept_more xs ys x (Some (Some p)) is = (is.0, is.1, got_before xs x is.0 p is.2)
kept_more xs ys x (Some None) is = is

-- one more, where there were some
pub kept_several : (xs ys : List Candidate) (x : Candidate) (known : Option (Option ℕ)) → is_some known ≡ true → KeptAs xs known ys → KeptAs (xs ++ x ∷ []) (Some None) (ys ++ x ∷ [])
kept_several xs ys x None some is = absurd (false≢true some)
kept_several xs ys x (Some (Some p)) some is = (is.0, x, [], ap (λ (zs : List Candidate). zs ++ x ∷ []) is.1)
kept_several xs ys x (Some None) some is = (is.0, is.1, is.2 ++ x ∷ [], ap (λ (zs : List Candidate). zs ++ x ∷ []) is.3)

-- one, where there was none
pub kept_only : (xs ys : List Candidate) (x : Candidate) (known : Option (Option ℕ)) → is_some known ≡ false → KeptAs xs known ys → KeptAs (xs ++ x ∷ []) (Some (Some (length xs))) (ys ++ x ∷ [])
kept_only xs ys x None none is = (x, ap (λ (zs : List Candidate). zs ++ x ∷ []) is, got_last xs x)
kept_only xs ys x (Some known) none is = absurd (false≢true (sym none))

-- a table in which one more candidate has its place
pub owners_more : (old new : BTreeMap (List ℕ) (Option ℕ)) (xs : List Candidate) (x : Candidate) (known : Option ℕ) → KeepsOwners old xs
    → KeptAs (xs ++ x ∷ []) (Some known) (filter (is_candidate_for x.isrc) xs ++ x ∷ [])
    → ((q : List ℕ) → tree.get bytes_cmp new q ≡ cond (eq_by_cmp bytes_cmp x.isrc q) (Some known) (tree.get bytes_cmp old q)) → KeepsOwners new (xs ++ x ∷ [])
owners_more old new xs x known before is updates q =
    let P : Bool → Type 0 = λ b. bytes_eq x.isrc q ≡ b → KeptAs (xs ++ x ∷ []) (cond b (Some known) (tree.get bytes_cmp old q)) (filter (is_candidate_for q) xs ++ cond b (x ∷ []) []) in
    let at : (b : Bool) → P b = elim [
      | true ↦ λ e. subst (λ (r : List ℕ). KeptAs (xs ++ x ∷ []) (Some known) (filter (is_candidate_for r) xs ++ x ∷ [])) ((bytes_eq-Decides x.isrc q).0 e) is
      | false ↦ λ e. subst (KeptAs (xs ++ x ∷ []) (tree.get bytes_cmp old q)) (sym (append-nil (filter (is_candidate_for q) xs))) (kept_more xs (filter (is_candidate_for q) xs) x (tree.get bytes_cmp old q) (before q))
    ] in
    let stands : KeptAs (xs ++ x ∷ []) (cond (bytes_eq x.isrc q) (Some known) (tree.get bytes_cmp old q)) (filter (is_candidate_for q) (xs ++ x ∷ [])) =
    subst (KeptAs (xs ++ x ∷ []) (cond (bytes_eq x.isrc q) (Some known) (tree.get bytes_cmp old q))) (sym (filter-append (is_candidate_for q) xs (x ∷ []))) (at (bytes_eq x.isrc q) refl) in
    subst (λ (k : Option (Option ℕ)). KeptAs (xs ++ x ∷ []) k (filter (is_candidate_for q) (xs ++ x ∷ [])))
    (sym (updates q ∙ ap (λ (b : Bool). cond b (Some known) (tree.get bytes_cmp old q)) (is_eq-slice_cmp x.isrc q))) stands

-- the only candidate, by what is kept
pub sole_kept : (xs ys : List Candidate) (p : ℕ) → KeptAs xs (Some (Some p)) ys → sole ys ≡ slice_get xs p
sole_kept xs ys p is = ap sole is.1 ∙ sym is.2

pub sole_of_several : (xs ys : List Candidate) → KeptAs xs (Some None) ys → sole ys ≡ None
sole_of_several xs ys is = ap sole is.3

pub sole_of_none : (xs ys : List Candidate) → KeptAs xs None ys → sole ys ≡ None
sole_of_none xs ys is = ap sole is
