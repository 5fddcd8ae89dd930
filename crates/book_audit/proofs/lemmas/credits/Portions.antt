-- The lines of a pool's portions, one portion after another.
use Rattle.std.proofs.Common.{◌≡◌, ◌∙◌, ◌+◌, ◌++◌, ◌∷◌, ◌<◌, [], ℕ, suc, List, ap, append-nil, append_assoc, drop, get_or, length, sym, take}
use Rattle.std.proofs.Math.Seq.{split_at}
use Rattle.std.proofs.lemmas.Grind.{flat_map-append}
use Rattle.std.proofs.lemmas.List.{append_cancel_left, length-map}
use Rattle.std.proofs.lemmas.List.FromFn.{length-enumerate_from}
use Rattle.pool_split.specs.Credits.{credits_together}
use Rattle.pool_split.specs.declared.claim.Credit.{Credit}
use Rattle.sqlite_value.specs.Order.{Row}
use Rattle.society_closings.specs.Closings.{lines_from}
use Rattle.society_closings.proofs.lemmas.money.PoolWrites.{lines_after, lines_behind, take_next}

-- a line for each credit
pub lines_many : (pool first : ℕ) (credits : List Credit) → length (lines_from pool first credits) ≡ length credits
lines_many pool first credits = length-map _ _ ∙ length-enumerate_from first credits

module _ (all : List (List Credit)) (i : ℕ) (one : List Credit) (within : i < length all) (is : one ≡ get_or all i one) where
  abbrev done : List Credit
  done = credits_together (take i all)

  -- the credits of one portion more
  pub together_next : credits_together (take (i + 1) all) ≡ credits_together (take i all) ++ one
  together_next = ap credits_together (take_next all i one within is) ∙ flat_map-append (λ (credits : List Credit). credits) (take i all) (one ∷ []) ∙ ap (λ (l : List Credit). done ++ l) (append-nil one)

  -- and those behind it
  pub together_all : credits_together all ≡ credits_together (take i all) ++ (one ++ credits_together (drop (suc i) all))
  together_all =
      ap credits_together (split_at all i one within ∙ ap (λ (x : List Credit). take i all ++ x ∷ drop (suc i) all) (sym is))
      ∙ flat_map-append (λ (credits : List Credit). credits) (take i all) (one ∷ drop (suc i) all)

  module _ (pool : ℕ) (rows left : List Row) (line : ℕ) (line_is : line ≡ length (credits_together (take i all))) (so_far : rows ≡ lines_from pool 0 (credits_together (take i all)) ++ left) where
    -- what is left of all lines begins with those of the next portion
    pub left_is : rows ≡ lines_from pool 0 (credits_together all) → left ≡ lines_from pool line one ++ lines_from pool (line + length one) (credits_together (drop (suc i) all))
    left_is whole =
        let behind = one ++ credits_together (drop (suc i) all) in
        append_cancel_left (lines_from pool 0 done) left _
        (sym so_far ∙ whole ∙ ap (lines_from pool 0) together_all ∙ lines_after pool done behind
        ∙ ap (λ (k : ℕ). lines_from pool 0 done ++ lines_from pool k behind) (sym line_is)
        ∙ ap (λ (l : List Row). lines_from pool 0 done ++ l) (lines_behind pool line one (credits_together (drop (suc i) all))))

    -- where the next rows are those lines, the rows behind them are left
    pub left_next : (here behind : List Row) → left ≡ here ++ behind → here ≡ lines_from pool line one → rows ≡ lines_from pool 0 (credits_together (take (i + 1) all)) ++ behind
    left_next here behind cut same =
        so_far
        ∙ ap (λ (l : List Row). lines_from pool 0 done ++ l) (cut ∙ ap (λ (l : List Row). l ++ behind) same)
        ∙ sym (append_assoc (lines_from pool 0 done) (lines_from pool line one) behind)
        ∙ ap (λ (l : List Row). l ++ behind)
        (ap (λ (k : ℕ). lines_from pool 0 done ++ lines_from pool k one) line_is ∙ sym (lines_after pool done one) ∙ ap (lines_from pool 0) (sym together_next))
