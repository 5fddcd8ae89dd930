-- The transactions of a run, one after another.
use Rattle.std.proofs.Common.{◌≡◌, ◌∙◌, ◌+◌, ◌++◌, ◌<◌, ℕ, suc, List, [], ◌∷◌, Some, Result, Ok, Err, OnOk, drop, length, refl, ap, sym, append_assoc, get_or, add-one, drop-cons}
use Rattle.std.specs.List.{slice_get}
use Rattle.std.proofs.lemmas.Option.{get_or_from_slice_get, slice_get_within}
use Rattle.society_arrivals.specs.Runs.{AddsAt, Notes, Settled, settled_from, clean_work_number}
use Rattle.works_core.specs.declared.judged.Judged.{Judged}
use Rattle.works_core.specs.declared.verdict.Verdict.{Verdict}

-- what is left of a list begins with its next element
pub next_of : {X : Type 0} (xs : List X) (i : ℕ) (x : X) → i < length xs → x ≡ get_or xs i x → drop i xs ≡ x ∷ drop (i + 1) xs
next_of {X} xs i x h is = rw (add-one, drop-cons xs i x h) (ap (λ (y : X). y ∷ drop (suc i) xs) (sym is))

pub next_there : {X : Type 0} (xs : List X) (i : ℕ) (x : X) → slice_get xs i ≡ Some x → drop i xs ≡ x ∷ drop (i + 1) xs
next_there xs i x there = next_of xs i x (slice_get_within xs i x there) (sym (get_or_from_slice_get xs i x x there))

-- no transaction is left where no verdict is
pub settled_end : (n p : ℕ) (js : List Judged) (is : List (List (List ℕ))) (vs : List Verdict) → vs ≡ [] → settled_from n p js is vs ≡ []
settled_end n p js is vs none = ap (settled_from n p js is) none ∙ by_case js is
  where
    by_case : (a : List Judged) (b : List (List (List ℕ))) → settled_from n p a b [] ≡ []
    by_case [] b = refl
    by_case (x ∷ a) [] = refl
    by_case (x ∷ a) (y ∷ b) = refl

-- the next transaction comes to those so far
pub settled_at : (at : ℕ) (notes : Notes) (all : List Verdict) (v : Verdict) (begun old new : List Settled) → at < length all → v ≡ get_or all at v → AddsAt notes at v old new
    → old ++ settled_from notes.number at (drop at notes.judged) (drop at notes.isrcs) (drop at all) ≡ begun ++ settled_from notes.number 0 notes.judged notes.isrcs all
    → new ++ settled_from notes.number (at + 1) (drop (at + 1) notes.judged) (drop (at + 1) notes.isrcs) (drop (at + 1) all) ≡ begun ++ settled_from notes.number 0 notes.judged notes.isrcs all
settled_at at notes all v begun old new here is adds so_far =
    let n = notes.number in
    let one : Settled = record { number = n; place = at; work = clean_work_number adds.judged; isrcs = adds.isrcs; verdict = v } in
    let left = settled_from n (at + 1) (drop (at + 1) notes.judged) (drop (at + 1) notes.isrcs) (drop (at + 1) all) in
    let parts : settled_from n at (drop at notes.judged) (drop at notes.isrcs) (drop at all) ≡ one ∷ left =
    ap (λ (js : List Judged). settled_from n at js (drop at notes.isrcs) (drop at all)) (next_there notes.judged at adds.judged adds.judged_there)
    ∙ ap (λ (is : List (List (List ℕ))). settled_from n at (adds.judged ∷ drop (at + 1) notes.judged) is (drop at all)) (next_there notes.isrcs at adds.isrcs adds.isrcs_there)
    ∙ ap (settled_from n at (adds.judged ∷ drop (at + 1) notes.judged) (adds.isrcs ∷ drop (at + 1) notes.isrcs)) (next_of all at v here is) in
    ap (λ (l : List Settled). l ++ left) adds.more ∙ append_assoc old (one ∷ []) left ∙ ap (λ (l : List Settled). old ++ l) (sym parts) ∙ so_far

-- what holds in any case holds of an answer
pub on_any : {X E : Type 0} (r : Result X E) {P : Type 0} → P → OnOk r P
on_any (Ok x) h = h
on_any (Err e) h = tt
