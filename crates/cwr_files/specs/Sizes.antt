-- How large lines and bodies may be.
use Rattle.std.specs.Prelude.{ℕ, ◌≤◌, List, length, All}
use Rattle.cwr_records.specs.Lines.{lines}

-- how many bytes a line has at most, its end aside (profile)
abbrev pub max_line : ℕ
max_line = 2000

-- how many bytes a body has at most (profile)
abbrev pub max_body : ℕ
max_body = 1048576

-- each line has at most 2,000 bytes without its end, and the body at most 1,048,576 bytes (profile)
pub record IsWithinSizes (body : List ℕ) : Type 0 where
  pub lines_fit : All (λ line. length line ≤ max_line) (lines body)
  pub body_fits : length body ≤ max_body
