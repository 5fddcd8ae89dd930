-- Lines that the running counts pass without a fault.
use Rattle.std.proofs.Common.{◌≡◌, ℕ, List, [], ◌∷◌, subst, None}
use Rattle.cwr_files.specs.declared.counts.Counts.{Counts}
use Rattle.cwr_files.specs.Counts.{stage_fault, counts_after, counted_end}

-- from these counts on, no line has a fault, and the end has none
abbrev pub Passes : List ℕ → Counts → List (List ℕ) → Type 0
Passes sender c [] = counted_end c ≡ None
Passes sender c (l ∷ ls) = (stage_fault sender c.stage c l ≡ None) × Passes sender (counts_after c l) ls

pub passes-from : (sender : List ℕ) (c d : Counts) (ls : List (List ℕ)) → c ≡ d → Passes sender c ls → Passes sender d ls
passes-from sender c d ls e h = subst (λ (x : Counts). Passes sender x ls) e h
