-- The numbers of held transmissions: those that are there and not in the line, ascending.
use Rattle.std.proofs.Common.{◌≡◌, ℕ, ◌&&◌, Bool, List, not, ap, ◌∙◌}
use Rattle.std.specs.List.Sorted.{IsStrictlySortedBy}
use Rattle.std.specs.Ordering.{nat_cmp}
use Rattle.std.proofs.lemmas.List.Kept.{IsStrictlySortedBy-filter}
use Rattle.society_core.specs.Book.{Book, held, is_in_line, is_one_of, is_there, numbers_of}
use Rattle.society_core.proofs.lemmas.LineNumbers.{one_that_passes}
use Rattle.society_core.proofs.lemmas.NumbersThere.{numbers_ascend, there_of_numbers}

-- whether a number is not in a sender's line
abbrev pub waits : Book → List ℕ → ℕ → Bool
waits book sender n = not (is_in_line book sender n)

-- a number is held exactly where it is there and not in the line
pub held_waits : (b : Book) (s : List ℕ) (n : ℕ) → is_one_of (held b s) n ≡ (not (is_in_line b s n) && is_there b s n)
held_waits b s n =
    one_that_passes (waits b s) n (numbers_of b s)
    ∙ ap (λ (t : Bool). waits b s n && t) (there_of_numbers b s n)

-- held numbers ascend
pub held_ascend : (b : Book) (s : List ℕ) → IsStrictlySortedBy nat_cmp (held b s)
held_ascend b s = IsStrictlySortedBy-filter nat_cmp (waits b s) (numbers_of b s) (numbers_ascend b s)
