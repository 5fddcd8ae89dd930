-- The layouts of the record types: each field's name and positions.
use Rattle.std.specs.Prelude.{ℕ, ◌+◌, ◌-◌, Bool, true, false, cond, ◌&&◌, not, eqb, ltb, leb, List, [], ◌∷◌, ◌++◌, map, length, get_or, replicate, bytes_eq, zero, suc}
use Rattle.std.specs.List.{list_all}
use Rattle.cwr_records.specs.Lines.{field}
use Rattle.cwr_records.specs.declared.layout.Position.{Position}

-- a field of a layout: its name, and the positions of its first and its last byte, counted from 1
pub record Place : Type 0 where
  pub name : List ℕ
  pub first : ℕ
  pub last : ℕ

-- a field of a layout, in one row of its table
abbrev pub place : List ℕ → ℕ → ℕ → Place
place name first last = record { name = name; first = first; last = last }

-- where a field stands
abbrev pub position_of : Place → Position
position_of p = record { from = p.first; to = p.last }

-- where the fields of a layout stand
abbrev pub positions_of : List Place → List Position
positions_of places = map position_of places

-- how many bytes stand at a position
abbrev pub width_of : Position → ℕ
width_of p = p.to + 1 - p.from

-- whether positions come one after another, all behind a given one
abbrev pub is_ordered : ℕ → List Position → Bool
is_ordered behind [] = true
is_ordered behind (p ∷ ps) = ltb behind p.from && leb p.from p.to && is_ordered p.to ps

-- whether places are a layout: one or more, in order, not overlapping
abbrev pub is_layout : List Place → Bool
is_layout places = not (eqb (length places) 0) && is_ordered 0 (positions_of places)

-- whether the position at an index has a width
abbrev pub is_wide : List Position → ℕ → ℕ → Bool
is_wide [] index width = false
is_wide (p ∷ ps) zero width = leb 1 p.from && leb p.from p.to && eqb (width_of p) width
is_wide (p ∷ ps) (suc index) width = is_wide ps index width

-- no position at all
abbrev pub nowhere : Position
nowhere = record { from = 0; to = 0 }

-- the field of a line at a position
abbrev pub field_in : List ℕ → Position → List ℕ
field_in line p = field line p.from p.to

-- the field of a line at the position with an index
abbrev pub field_at : List Position → ℕ → List ℕ → List ℕ
field_at ps index line = field_in line (get_or ps index nowhere)

-- the fields of a line at some positions
abbrev pub fields_at : List Position → List ℕ → List (List ℕ)
fields_at ps line = map (field_in line) ps

-- the field of a line that a layout calls by a name
abbrev pub named : List ℕ → List Place → List ℕ → List ℕ
named name [] line = []
named name (p ∷ ps) line = cond (bytes_eq p.name name) (field line p.first p.last) (named name ps line)

-- the line that has each content at its position and blanks between them, behind what is written already
abbrev pub row_behind : ℕ → List Position → List (List ℕ) → List ℕ
row_behind behind [] contents = []
row_behind behind (p ∷ ps) [] = []
row_behind behind (p ∷ ps) (c ∷ cs) = replicate (p.from - 1 - behind) 32 ++ (c ++ row_behind p.to ps cs)

-- the line that has each content at its place, blanks in the gaps, up to the layout's last position
abbrev pub row : List Place → List (List ℕ) → List ℕ
row places contents = row_behind 0 (positions_of places) contents

-- a line with its line end, CR and LF (CISAC CWR 2.2)
abbrev pub ended : List ℕ → List ℕ
ended line = line ++ 13 ∷ 10 ∷ []

-- whether no content holds an LF
abbrev pub is_one_line : List (List ℕ) → Bool
is_one_line contents = list_all (λ c. list_all (λ b. not (eqb b 10)) c) contents
