-- SQL's = and > on the columns of a key, where the rows hold what was written.
use Rattle.std.proofs.Common.{◌≡◌, ℕ, zero, suc, ℤ, pos, Bool, true, ◌&&◌, List, [], ◌∷◌, Equal, refl, sym, ap, ap₂, ◌∙◌, int_cmp, nat_cmp, arith}
use Rattle.std.specs.Bool.{Decides}
use Rattle.std.specs.Ordering.{is_eq}
use Rattle.std.specs.Str.{bytes_eq}
use Rattle.std.proofs.lemmas.Bool.{and_parts}
use Rattle.std.proofs.lemmas.Bool.Decides.{nat_tests}
use Rattle.std.proofs.lemmas.Cmp.{int_ranked, tied_itself}
use Rattle.std.proofs.lemmas.Map.Text.{is_eq-slice_cmp}
use Rattle.std.proofs.lemmas.Slice.Eq.{bytes_eq-Decides}
use Rattle.sqlite_value.specs.declared.value.Value.TheVariants.{Int, Text}
use Rattle.sqlite_value.specs.declared.keys.Collation.TheVariants.{Binary}
use Rattle.sqlite_value.specs.Order.{Row, value_cmp}
use Rattle.sqlite_value.proofs.OrderLemmas.{value_cmp-Int, value_cmp-Text, value_cmp_total}
use Rattle.sqlite_sql.specs.Ops.{binary}
use Rattle.sqlite_schema.specs.Rules.{equal}
use Rattle.society_rows.specs.Reads.{has_key}
use Rattle.society_rows.specs.SegmentColumns.{segment_column}
use Rattle.society_rows.proofs.lemmas.changes.Rowids.{truth_of, eq_only}

-- texts are equal where their bytes are
pub text_equal : (s t : List ℕ) → equal Binary (Text s) (Text t) ≡ bytes_eq s t
unfolding binary
text_equal s t = truth_of (is_eq (value_cmp (Text s) (Text t))) ∙ ap is_eq (value_cmp-Text s t) ∙ is_eq-slice_cmp s t

pub text_decides : (s t : List ℕ) → Decides (equal Binary (Text s) (Text t)) (s ≡ t)
text_decides s t = (λ h. (bytes_eq-Decides s t).0 (sym (text_equal s t) ∙ h), λ e. text_equal s t ∙ (bytes_eq-Decides s t).1 e)

-- whole numbers are equal where they are the same number
pub int_equal : (m n : ℤ) → equal Binary (Int m) (Int n) ≡ is_eq (int_cmp m n)
unfolding binary
int_equal m n = truth_of (is_eq (value_cmp (Int m) (Int n))) ∙ ap is_eq (value_cmp-Int m n)

pub int_decides : (m n : ℤ) → Decides (equal Binary (Int m) (Int n)) (m ≡ n)
int_decides m n = (
  λ h. int_ranked m n Equal (sym (eq_only _ (sym (int_equal m n) ∙ h))),
  λ e. int_equal m n ∙ sym (ap is_eq (value_cmp-Int m n)) ∙ ap (λ k. is_eq (value_cmp (Int m) (Int k))) (sym e) ∙ ap is_eq (tied_itself value_cmp_total (Int m)),
)

pub number_decides : (m n : ℕ) → Decides (equal Binary (Int (pos m)) (Int (pos n))) (m ≡ n)
number_decides m n = (λ h. let same = (int_decides (pos m) (pos n)).0 h in cc, λ e. (int_decides (pos m) (pos n)).1 (ap pos e))

-- two tests decide two facts
both_decide : (a b : Bool) (P Q : Type 0) → Decides a P → Decides b Q → Decides (a && (b && true)) (P × Q)
both_decide a b P Q p q = (
  λ h. let parts = and_parts a (b && true) h in (p.0 parts.0, q.0 (and_parts b true parts.1).0),
  λ h. ap₂ (λ (x y : Bool). x && (y && true)) (p.1 h.0) (q.1 h.1),
)

one_decides : (a : Bool) (P : Type 0) → Decides a P → Decides (a && true) P
one_decides a P p = (λ h. p.0 (and_parts a true h).0, λ h. ap (λ x. x && true) (p.1 h))

-- the key of a row that begins with a text, as a front or a balance
pub text_key : (s t : List ℕ) (rest : Row) → Decides (has_key (Text t ∷ []) (Text s ∷ rest)) (s ≡ t)
text_key s t rest = one_decides _ _ (text_decides s t)

-- the key of a row that begins with a number, as a pool
pub number_key : (m n : ℕ) (rest : Row) → Decides (has_key (Int (pos n) ∷ []) (Int (pos m) ∷ rest)) (m ≡ n)
number_key m n rest = one_decides _ _ (number_decides m n)

-- a text and a number, as of a transmission or a return
pub text_number_key : (s t : List ℕ) (m n : ℕ) (rest : Row) → Decides (has_key (Text t ∷ Int (pos n) ∷ []) (Text s ∷ Int (pos m) ∷ rest)) ((s ≡ t) × (m ≡ n))
text_number_key s t m n rest = both_decide _ _ _ _ (text_decides s t) (number_decides m n)

-- two texts, as of a version or a recording
pub text_text_key : (s t a b : List ℕ) (rest : Row) → Decides (has_key (Text t ∷ Text b ∷ []) (Text s ∷ Text a ∷ rest)) ((s ≡ t) × (a ≡ b))
text_text_key s t a b rest = both_decide _ _ _ _ (text_decides s t) (text_decides a b)

-- a column is that of one segment
one_place : (m n : ℕ) → segment_column m ≡ segment_column n → m ≡ n
one_place zero zero same = refl
one_place zero (suc n) same = absurd cc
one_place (suc m) zero same = absurd cc
one_place (suc m) (suc n) same = let e : m ≡ n = cc in ap suc e

segment_decides : (m n : ℕ) → Decides (equal Binary (Int (segment_column m)) (Int (segment_column n))) (m ≡ n)
segment_decides m n = (λ h. one_place m n ((int_decides (segment_column m) (segment_column n)).0 h), λ e. (int_decides (segment_column m) (segment_column n)).1 (ap segment_column e))

-- a text and a segment, as of the end of a segment
pub text_segment_key : (s t : List ℕ) (m n : ℕ) (rest : Row) → Decides (has_key (Text t ∷ Int (segment_column n) ∷ []) (Text s ∷ Int (segment_column m) ∷ rest)) ((s ≡ t) × (m ≡ n))
text_segment_key s t m n rest = both_decide _ _ _ _ (text_decides s t) (segment_decides m n)

years_ordered : (m n : ℕ) → int_cmp (pos m) (pos n) ≡ nat_cmp (suc m) (suc n)
years_ordered m n = grind (arith, nat_tests)

columns_ordered : (m n : ℕ) → int_cmp (segment_column m) (segment_column n) ≡ nat_cmp m n
columns_ordered zero zero = refl
columns_ordered zero (suc n) = grind (arith, nat_tests)
columns_ordered (suc m) zero = grind (arith, nat_tests)
columns_ordered (suc m) (suc n) = years_ordered m n

-- SQL orders segments by their places
pub segments_ordered : (m n : ℕ) → value_cmp (Int (segment_column m)) (Int (segment_column n)) ≡ nat_cmp m n
segments_ordered m n = value_cmp-Int (segment_column m) (segment_column n) ∙ columns_ordered m n
