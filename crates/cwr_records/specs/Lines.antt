-- Lines of a transmission and fields of a line.
use Rattle.std.specs.Prelude.{◌≡◌, ℕ, ◌+◌, ◌-◌, ◌<◌, ◌≤◌, Bool, cond, eqb, List, [], ◌∷◌, ◌++◌, map, length, get_or, take, drop}
use Rattle.std.specs.List.{list_all, list_any}
use Rattle.work_ids.specs.Blanks.{is_blank_byte, fill as filled_with_blanks}

-- a byte in front of the first of some pieces, where there is none as a piece of its own
abbrev pub onto_first : ℕ → List (List ℕ) → List (List ℕ)
onto_first b [] = (b ∷ []) ∷ []
onto_first b (p ∷ ps) = (b ∷ p) ∷ ps

-- the pieces of a body, cut after each LF, which stays with its piece (CISAC CWR 2.2)
abbrev pub pieces : List ℕ → List (List ℕ)
pieces [] = []
pieces (b ∷ bs) = cond (eqb b 10) ((b ∷ []) ∷ pieces bs) (onto_first b (pieces bs))

-- whether an LF stands among bytes
abbrev pub has_line_end : List ℕ → Bool
has_line_end bytes = list_any (λ b. eqb b 10) bytes

-- so many first bytes of a body are its first piece, its LF included, whatever follows the bytes that are there
pub record IsWholePiece (bytes : List ℕ) (count : ℕ) : Type 0 where
  pub some : 0 < count
  pub within : count ≤ length bytes
  pub always : (more : List ℕ) → pieces (bytes ++ more) ≡ take count bytes ∷ pieces (drop count bytes ++ more)

-- bytes without their last one, where that is b
abbrev pub without_last : ℕ → List ℕ → List ℕ
without_last b bs = cond (eqb (get_or bs (length bs - 1) 0) b) (take (length bs - 1) bs) bs

-- the line of a piece: without its LF, then without one CR at its end (profile)
unfoldable pub line_of_piece : List ℕ → List ℕ
line_of_piece piece = without_last 13 (without_last 10 piece)

-- the lines of a body (CISAC CWR 2.2; that the last line end may be missing: profile)
abbrev pub lines : List ℕ → List (List ℕ)
lines body = map line_of_piece (pieces body)

-- bytes with blanks after them, up to a width
unfoldable pub fill_field : ℕ → List ℕ → List ℕ
fill_field width bs = filled_with_blanks width bs

-- the field of a line from one position to another, both from 1, with blanks past the line's end (CISAC CWR 2.2; the blanks: profile)
unfoldable pub field : List ℕ → ℕ → ℕ → List ℕ
unfolding fill_field
field line first last = fill_field (last + 1 - first) (take (last + 1 - first) (drop (first - 1) line))

-- whether all bytes are blanks
unfoldable pub is_blank : List ℕ → Bool
is_blank bs = list_all is_blank_byte bs

-- what a body begins with: its first piece, as a line, and the rest of the body
pub record IsFirstLine (body line rest : List ℕ) : Type 0 where
  pub piece : List ℕ
  pub joined : body ≡ piece ++ rest
  pub pieces_are : pieces body ≡ piece ∷ pieces rest
  pub line_is : line ≡ line_of_piece piece
  pub lines_are : lines body ≡ line ∷ lines rest
  pub shorter : length rest < length body
