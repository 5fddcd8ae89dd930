-- Lemmas on numbers as texts: what a rank below the first year is, and what one of a year is.
use Rattle.std.proofs.Common.{◌≡◌, ℕ, suc, ◌+◌, ◌-◌, ◌/◌, ◌%◌, ◌<◌, ◌≤◌, Bool, cond, ap, ◌∙◌, arith}
use Rattle.std.specs.Prelude.{decimal, codes, ◌++◌}
use Rattle.std.proofs.lemmas.Bool.{lt-ltb, le-ltb}
use Rattle.work_ids.specs.Segments.{base_of, segment_at, segment_of, sequence_of}
use Rattle.work_ids.specs.SpelledNumber.{dated_text}
use Rattle.work_ids.specs.declared.segment.Segment.{Segment}
use Rattle.work_ids.specs.declared.segment.Segment.TheVariants.{Plain, Year}
use Rattle.http_text.specs.NumberTexts.{number_text, number_text_in}

plain_segment : (rank : ℕ) → rank < 1000000 → segment_of rank ≡ 0
plain_segment rank h = ap (λ (b : Bool). cond b 0 ((rank - 1000000) / 10000 + 1)) (lt-ltb rank 1000000 h)

dated_segment : (rank : ℕ) → 1000000 ≤ rank → segment_of rank ≡ suc ((rank - 1000000) / 10000)
dated_segment rank h = ap (λ (b : Bool). cond b 0 ((rank - 1000000) / 10000 + 1)) (le-ltb rank 1000000 h) ∙ (omega arith)

plain_sequence : (rank : ℕ) → rank < 1000000 → sequence_of rank ≡ rank
plain_sequence rank h = ap (λ (g : ℕ). rank - base_of g) (plain_segment rank h) ∙ (omega arith)

dated_sequence : (rank : ℕ) → 1000000 ≤ rank → sequence_of rank ≡ (rank - 1000000) % 10000
dated_sequence rank h = ap (λ (g : ℕ). rank - base_of g) (dated_segment rank h) ∙ (omega (arith, h))

-- what is made of the segment and the number of a rank
module _ {X : Type 0} (made : Segment → ℕ → X) (rank : ℕ) where
  pub of_plain : rank < 1000000 → made (segment_at (segment_of rank)) (sequence_of rank) ≡ made Plain rank
  of_plain h =
      ap (λ (g : ℕ). made (segment_at g) (sequence_of rank)) (plain_segment rank h) ∙ ap (λ (k : ℕ). made Plain k) (plain_sequence rank h)

  pub of_dated : 1000000 ≤ rank → made (segment_at (segment_of rank)) (sequence_of rank) ≡ made (Year ((rank - 1000000) / 10000)) ((rank - 1000000) % 10000)
  of_dated h =
      ap (λ (g : ℕ). made (segment_at g) (sequence_of rank)) (dated_segment rank h)
      ∙ ap (λ (k : ℕ). made (Year ((rank - 1000000) / 10000)) k) (dated_sequence rank h)

pub plain_text : (rank : ℕ) → rank < 1000000 → number_text rank ≡ decimal rank
unfolding number_text
plain_text rank h = of_plain number_text_in rank h

pub year_text : (rank : ℕ) → 1000000 ≤ rank → number_text rank ≡ codes "\"" ++ dated_text ((rank - 1000000) / 10000) ((rank - 1000000) % 10000) ++ codes "\""
unfolding number_text
year_text rank h = of_dated number_text_in rank h
