-- Representation, not meaning: how far the lines of a body are read while it may still grow.
use Rattle.std.specs.Prelude.{◌≡◌, ℕ, ◌≤◌, false, List, ◌++◌, length, drop, map, sum_by, Option, Some, None}
use Rattle.cwr_records.specs.Lines.{pieces, line_of_piece, has_line_end}
use Rattle.cwr_files.specs.declared.fault.FileFault.{FileFault}
use Rattle.cwr_files.specs.declared.progress.Progress.{Progress}
use Rattle.cwr_files.specs.Sizes.{max_body}
use Rattle.cwr_files.specs.LineFaults.{is_too_large}
use Rattle.cwr_files.specs.FileFault.{fault_from, file_fault}
use Rattle.cwr_files.specs.Counts.{counts_of}
use Rattle.cwr_files.specs.Prefixes.{IsSettled}

-- the lines before a place are read and have no fault: what is found from there on, behind them, is the body's fault, whatever follows
pub record IsReadTo (sender body : List ℕ) (at : Progress) : Type 0 where
  pub past : List (List ℕ)
  pub counted : at.counts ≡ counts_of (map line_of_piece past)
  pub same : (more : List ℕ) → fault_from sender past (pieces (drop at.start body ++ more)) ≡ file_fault sender (body ++ more)
  pub read : sum_by length past ≡ at.start
  pub lines : length past ≤ at.start
  pub within : at.start ≤ length body
  pub small : at.start ≤ max_body

-- all lines that have ended are read
pub record HasReadLines (sender body : List ℕ) (at : Progress) : Type 0 where
  pub read : IsReadTo sender body at
  pub no_end : has_line_end (drop at.start body) ≡ false

-- all lines that have ended are read, and what stands behind them is not too large yet
pub record IsPending (sender body : List ℕ) (at : Progress) : Type 0 where
  pub lines : HasReadLines sender body at
  pub fits : is_too_large (length body) (line_of_piece (drop at.start body)) ≡ false

-- a reader in pieces knows the fault of its bytes, whatever follows, or how far they are read
abbrev pub IsKnown : List ℕ → List ℕ → Progress → Option FileFault → Type 0
IsKnown sender body at None = IsPending sender body at
IsKnown sender body at (Some fault) = IsSettled sender body fault
