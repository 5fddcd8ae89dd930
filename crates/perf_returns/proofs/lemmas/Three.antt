-- Records of three fields.
use Rattle.std.proofs.Common.{◌≡◌, ℕ, List, [], ◌∷◌, length, refl, arith, unwrap_or}
use Rattle.csv.specs.Records.{field_at}
use Rattle.work_ids.specs.Isrc.{isrc_of_text}
use Rattle.perf_returns.specs.Rows.{are_header_words, is_header_row, row_by, row_of}
use Rattle.perf_returns.specs.Numbers.{plays_of, seconds_of}

-- the field at a place, nothing where there is none
abbrev pub at : List (List ℕ) → ℕ → List ℕ
at fields place = unwrap_or (field_at fields place) []

-- a row of three fields says what they say
pub row_of_three : (fields : List (List ℕ)) → length fields ≡ 3 → row_of fields ≡ row_by (isrc_of_text (at fields 0)) (plays_of (at fields 1)) (seconds_of (at fields 2))
unfolding field_at
row_of_three [] h = absurd (omega arith)
row_of_three (a ∷ []) h = absurd (omega arith)
row_of_three (a ∷ b ∷ []) h = absurd (omega arith)
row_of_three (a ∷ b ∷ c ∷ []) h = refl
row_of_three (a ∷ b ∷ c ∷ d ∷ more) h = absurd (omega arith)

-- a record of three fields is the header where these are its words
pub header_of_three : (fields : List (List ℕ)) → length fields ≡ 3 → is_header_row fields ≡ are_header_words (at fields 0) (at fields 1) (at fields 2)
unfolding field_at
header_of_three [] h = absurd (omega arith)
header_of_three (a ∷ []) h = absurd (omega arith)
header_of_three (a ∷ b ∷ []) h = absurd (omega arith)
header_of_three (a ∷ b ∷ c ∷ []) h = refl
header_of_three (a ∷ b ∷ c ∷ d ∷ more) h = absurd (omega arith)
