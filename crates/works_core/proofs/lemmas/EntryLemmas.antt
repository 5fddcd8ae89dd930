-- The entries of works behind a change at one of them.
use Rattle.std.proofs.Common.{◌≡◌, ◌∙◌, ℕ, Bool, true, false, cond, List, Option, Some, None, is_some, ap, refl, sym}
use Rattle.std.proofs.lemmas.Bool.{false≢true}
use Rattle.std.proofs.lemmas.Map.Text.{is_eq-slice_cmp}
use Rattle.std.specs.BTreeMap as tree
use Rattle.std.specs.BTreeMap.{BTreeMap}
use Rattle.std.specs.Str.{bytes_eq}
use Rattle.works_core.proofs.lemmas.TrackLemmas.{same_bytes}
use Rattle.works_core.specs.Tracks.{KeepsEntries, KeepsWorks, number_cmp, place_kept}
use Rattle.works_core.specs.declared.judged.Judged.TheVariants.{Clean, Faulty}
use Rattle.works_core.specs.declared.works.Works.{Works}

-- what a map has at each number once it is changed at one
pub changed : {X : Type 0} (n : List ℕ) (old new : BTreeMap (List ℕ) X) (w : Option X) → tree.UpdatesBy number_cmp (number_cmp n) old new w → (q : List ℕ) → tree.get number_cmp new q ≡ cond (bytes_eq n q) w (tree.get number_cmp old q)
changed n old new w updates q = updates.0 q ∙ ap (λ (b : Bool). cond b w (tree.get number_cmp old q)) (is_eq-slice_cmp n q)

-- the place in an entry that is chosen
pub place_chosen : (b : Bool) (place : Option ℕ) (other : Option (Option ℕ)) → place_kept (cond b (Some place) other) ≡ cond b place (place_kept other)
place_chosen true place other = refl
place_chosen false place other = refl

some_stays : {X : Type 0} (b : Bool) (x : X) (o : Option X) → is_some o ≡ true → is_some (cond b (Some x) o) ≡ true
some_stays true x o there = refl
some_stays false x o there = there

-- a change that puts an entry takes none away
pub keeps_entries : (old new : Works) (n : List ℕ) (place : Option ℕ) → tree.UpdatesBy number_cmp (number_cmp n) old.last new.last (Some place) → KeepsEntries old new
keeps_entries old new n place updates (Clean kind q) there =
    ap is_some (changed n old.last new.last (Some place) updates q) ∙ some_stays (bytes_eq n q) place (tree.get number_cmp old.last q) there
keeps_entries old new n place updates (Faulty fault) there = there

-- where there is not something there is nothing
pub none_of : {X : Type 0} (o : Option X) → is_some o ≡ false → o ≡ None
none_of None e = refl
none_of (Some x) e = absurd (false≢true (sym e))

-- an entry without a place changes no work where there was none
pub entered : (old new : Works) (n : List ℕ) → tree.UpdatesBy number_cmp (number_cmp n) old.last new.last (Some None) → tree.get number_cmp old.last n ≡ None → new.versions ≡ old.versions → new.count ≡ old.count → KeepsWorks old new
entered old new n updates none versions count = record {
  entries = keeps_entries old new n None updates;
  last = λ q. ap place_kept (changed n old.last new.last (Some None) updates q) ∙ place_chosen (bytes_eq n q) None (tree.get number_cmp old.last q) ∙ by_case (bytes_eq n q) q refl;
  versions = versions;
  count = count;
}
  where
    by_case : (b : Bool) (q : List ℕ) → bytes_eq n q ≡ b → cond b None (place_kept (tree.get number_cmp old.last q)) ≡ place_kept (tree.get number_cmp old.last q)
    by_case true q same = sym (ap (λ (z : List ℕ). place_kept (tree.get number_cmp old.last z)) (sym (same_bytes n q same)) ∙ ap place_kept none)
    by_case false q same = refl

-- the same works are kept by one step, and by the next
pub keeps_both : (a b c : Works) → KeepsWorks a b → KeepsWorks b c → KeepsWorks a c
keeps_both a b c first next = record {
  entries = λ x there. next.entries x (first.entries x there);
  last = λ w. next.last w ∙ first.last w;
  versions = next.versions ∙ first.versions;
  count = next.count ∙ first.count;
}

pub keeps_itself : (a : Works) → KeepsWorks a a
keeps_itself a = record {
  entries = λ x there. there;
  last = λ w. refl;
  versions = refl;
  count = refl;
}
