-- What the first bytes of a body say of it, whatever follows them.
use Rattle.std.specs.Prelude.{◌≡◌, ℕ, List, ◌++◌, Some}
use Rattle.cwr_files.specs.declared.fault.FileFault.{FileFault}
use Rattle.cwr_files.specs.FileFault.{file_fault}

-- each body of a sender that begins with these bytes has this file fault
abbrev pub IsSettled : List ℕ → List ℕ → FileFault → Type 0
IsSettled sender bytes fault = (more : List ℕ) → file_fault sender (bytes ++ more) ≡ Some fault

-- no file fault is that of each body that begins with these bytes
abbrev pub IsUnsettled : List ℕ → List ℕ → Type 0
IsUnsettled sender bytes = (fault : FileFault) → IsSettled sender bytes fault → ⊥
