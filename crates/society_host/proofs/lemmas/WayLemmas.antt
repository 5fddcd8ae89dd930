-- What is taken of a reader, piece by piece.
use Rattle.std.proofs.Common.{◌∙◌, ℕ, List, ◌++◌, Option, Some, None, ap, append_assoc, sym}
use Rattle.std.specs.Io.KnownBytes.{Consumes}

-- what was taken, and then what was taken behind it
pub consumes_on : (a b c : Option (List ℕ)) (first then : List ℕ) → Consumes a b first → Consumes b c then → Consumes a c (first ++ then)
consumes_on None b c first then takes more = tt
consumes_on (Some xs) None c first then takes more = absurd takes
consumes_on (Some xs) (Some ys) None first then takes more = absurd more
consumes_on (Some xs) (Some ys) (Some zs) first then takes more = takes ∙ ap (λ (l : List ℕ). first ++ l) more ∙ sym (append_assoc first then zs)
