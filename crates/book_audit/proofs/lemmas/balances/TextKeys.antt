-- Units by texts: what a change at one text leaves at others, and when nothing is left.
use Rattle.std.proofs.Common.{◌≡◌, ◌∙◌, ℕ, Bool, true, false, cond, List, [], ◌∷◌, Option, Some, None, Vec, length, refl, subst, sym, bytes_eq, arith}
use Rattle.std.proofs.lemmas.Bool.{false≢true}
use Rattle.std.proofs.lemmas.Map.Text.{is_eq-slice_cmp}
use Rattle.std.proofs.lemmas.Slice.Eq.{bytes_eq-Decides}
use Rattle.std.specs.BTreeMap as tree
use Rattle.std.specs.BTreeMap.{BTreeMap, is_at}
use Rattle.std.specs.Cmp.{eq_by_cmp_equiv}
use Rattle.std.specs.Cmp.Lexicographic.{slice_cmp, nat_list_cmp_total}
use Rattle.std.specs.Map.{AreApart, IsKeyTest, KeepsOthers, lookup}
use Rattle.std.specs.Ordering.{nat_cmp}
use Rattle.std.specs.declared.alloc.Global.{Global}
use Rattle.book_audit.specs.Balances.{units_at}

abbrev Key : Type 0
Key = Vec ℕ Global

apart : (bs cs ks : List ℕ) → bytes_eq bs cs ≡ false → bytes_eq bs ks ≡ true → bytes_eq cs ks ≡ false
apart bs cs ks other same = by_case (bytes_eq cs ks) refl
  where
    by_case : (b : Bool) → bytes_eq cs ks ≡ b → bytes_eq cs ks ≡ false
    by_case false e = e
    by_case true e = absurd (false≢true (sym other ∙ (bytes_eq-Decides bs cs).1 ((bytes_eq-Decides bs ks).0 same ∙ sym ((bytes_eq-Decides cs ks).0 e))))

other_entries : {K X : Type 0} (eq : K → K → Bool) (test : K → Bool) (old new : List (K × X)) → KeepsOthers eq test old new → (other : K → Bool) → IsKeyTest eq other → AreApart test other → lookup other new ≡ lookup other old
unfolding KeepsOthers
other_entries eq test old new h = h

-- what the units are at each text once they are changed at one
pub units_changed : (bs : List ℕ) (old new : BTreeMap Key ℕ) (w : Option ℕ) → tree.UpdatesBy (λ x y. slice_cmp nat_cmp x.items y.items) (λ k. slice_cmp nat_cmp bs k.items) old new w → (cs : List ℕ) → units_at new cs ≡ cond (bytes_eq bs cs) w (units_at old cs)
units_changed bs old new w changed cs = by_case (bytes_eq bs cs) refl
  where
    by_case : (b : Bool) → bytes_eq bs cs ≡ b → units_at new cs ≡ cond b w (units_at old cs)
    by_case true e = subst (λ (l : List ℕ). units_at new l ≡ w) ((bytes_eq-Decides bs cs).0 e) changed.1
    by_case false e =
        other_entries _ _ old.entries new.entries changed.3 (is_at (λ k. slice_cmp nat_cmp cs k.items))
        (λ x y. (eq_by_cmp_equiv nat_list_cmp_total).congr cs x.items y.items)
        (λ k same. is_eq-slice_cmp cs k.items ∙ apart bs cs k.items e (sym (is_eq-slice_cmp bs k.items) ∙ same))

no_units : (n : ℕ) (o : Option ℕ) (b : Bool) → b ≡ true → cond b (Some n) o ≡ None → ⊥
no_units n o true is e = cc
no_units n o false is e = absurd (false≢true is)

none_in : (es : List (Key × ℕ)) → ((q : List ℕ) → lookup (is_at (λ (k : Key). slice_cmp nat_cmp q k.items)) es ≡ None) → length es ≡ 0
none_in [] none = refl
none_in (e ∷ es) none =
    absurd (no_units e.1 (lookup (is_at (λ (k : Key). slice_cmp nat_cmp e.0.items k.items)) es) (is_at (λ (k : Key). slice_cmp nat_cmp e.0.items k.items) e.0)
    (is_eq-slice_cmp e.0.items e.0.items ∙ (bytes_eq-Decides e.0.items e.0.items).1 refl) (none e.0.items))

-- nothing is left where there are units at no text
pub nothing_left : (m : BTreeMap Key ℕ) → ((q : List ℕ) → units_at m q ≡ None) → length m.entries ≡ 0
nothing_left m none = none_in m.entries none

all_none : (q : List ℕ) (es : List (Key × ℕ)) → length es ≡ 0 → lookup (is_at (λ (k : Key). slice_cmp nat_cmp q k.items)) es ≡ None
all_none q [] e = refl
all_none q (x ∷ es) e = absurd (omega (arith, e))

-- and there are units at no text where nothing is left
pub units_of_nothing : (m : BTreeMap Key ℕ) → length m.entries ≡ 0 → (q : List ℕ) → units_at m q ≡ None
units_of_nothing m e q = all_none q m.entries e
