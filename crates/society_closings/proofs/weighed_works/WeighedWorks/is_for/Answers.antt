use Rattle.std.proofs.Common.{◌≡◌, ◌∙◌, ◌||◌, Bool, List, [], ◌∷◌, ℕ, ap, bytes_eq, false, refl, rules, sym, tests, true}
use Rattle.std.proofs.lemmas.Bool.{false≢true}
use Rattle.std.proofs.lemmas.Iterator.{YieldsList-from_slice}
use Rattle.std.proofs.lemmas.Iterator.Search.{all_from_yields_List}
use Rattle.std.proofs.lemmas.Slice.Eq.{bytes_eq-Decides}
use Rattle.std.specs.BTreeSet.{contains}
use Rattle.std.specs.List.{list_all, list_any}
use Rattle.society_core.proofs.lemmas.CandidateLemmas.{both}
use Rattle.society_core.specs.Keys.{bytes_cmp}
use Rattle.society_closings.proofs.weighed_works.WeighedWorks.is_for.Goals as goal

-- what all of some pass, one that is among them passes
passes_among : (passes : List ℕ → Bool) (x : List ℕ) (xs : List (List ℕ)) → list_all passes xs ≡ true → list_any (bytes_eq x) xs ≡ true → passes x ≡ true
passes_among passes x [] all is = absurd (false≢true is)
passes_among passes x (y ∷ ys) all is =
    let two = both (passes y) (list_all passes ys) all in
    by_case (bytes_eq x y) refl two.0 (passes_among passes x ys two.1) is
  where
    by_case : (b : Bool) → bytes_eq x y ≡ b → passes y ≡ true → (list_any (bytes_eq x) ys ≡ true → passes x ≡ true) → (b || list_any (bytes_eq x) ys) ≡ true → passes x ≡ true
    by_case true same first rest h = ap passes ((bytes_eq-Decides x y).0 same) ∙ first
    by_case false same first rest h = rest h

pub returns : goal.returns
returns c = λ yes isrc is.
    let test = contains bytes_cmp c.args.self.now.recordings in
    let all = all_from_yields_List test _ _ c.all.result c.all.ensures.ran (YieldsList-from_slice c.args.recordings.now cc) (λ x b q k. search (rules, tests)) in
    passes_among test isrc c.args.recordings.now (sym all ∙ yes) is
