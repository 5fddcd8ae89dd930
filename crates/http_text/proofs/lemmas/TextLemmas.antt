-- Lemmas on the texts of answers.
use Rattle.std.proofs.Common.{◌≡◌, ℕ, ◌≤◌, length, lit≤, List, ◌++◌, append_assoc}
use Rattle.http_text.specs.declared.status.Status.{Status}
use Rattle.http_text.specs.declared.status.Status.TheVariants.{Done, Created, Accepted, BadRequest, NotFound, Conflict, TooLarge, Unprocessable, Unavailable}
use Rattle.http_text.specs.Text.{phrase_of, code_of}

pub phrase_short : (status : Status) → length (phrase_of (code_of status)) ≤ 32
phrase_short Done = lit≤ tt
phrase_short Created = lit≤ tt
phrase_short Accepted = lit≤ tt
phrase_short BadRequest = lit≤ tt
phrase_short NotFound = lit≤ tt
phrase_short Conflict = lit≤ tt
phrase_short TooLarge = lit≤ tt
phrase_short Unprocessable = lit≤ tt
phrase_short Unavailable = lit≤ tt

-- three appends in a row
pub join_three : (old a b c p q r : List ℕ) → p ≡ old ++ a → q ≡ p ++ b → r ≡ q ++ c → r ≡ old ++ (a ++ b ++ c)
join_three old a b c p q r i j k = rw (k, j, i) (regroup_three old a b c)
  where
    regroup_three : (old a b c : List ℕ) → ((old ++ a) ++ b) ++ c ≡ old ++ (a ++ b ++ c)
    regroup_three old a b c = simp append_assoc

regroup : (old a b c d e f : List ℕ) → (((((old ++ a) ++ b) ++ c) ++ d) ++ e) ++ f ≡ old ++ (a ++ b ++ c ++ d ++ e ++ f)
regroup old a b c d e f = simp append_assoc

-- six appends in a row
pub join_six : (old a b c d e f p q r s t u : List ℕ) → p ≡ old ++ a → q ≡ p ++ b → r ≡ q ++ c → s ≡ r ++ d → t ≡ s ++ e → u ≡ t ++ f
    → u ≡ old ++ (a ++ b ++ c ++ d ++ e ++ f)
join_six old a b c d e f p q r s t u i j k l m n = rw (n, m, l, k, j, i) (regroup old a b c d e f)
