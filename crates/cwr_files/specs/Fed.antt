-- A reader that takes a body in pieces, as its callers see it, and what it does with a piece.
use Rattle.std.specs.Prelude.{◌≡◌, ◌⊎◌, [], ℕ, List, ◌++◌, Result, Ok, Err}
use Rattle.cwr_files.specs.declared.fault.FileFault.{FileFault}
use Rattle.cwr_files.specs.declared.fault.ReadFault.{ReadFault}
use Rattle.cwr_files.specs.declared.fault.ReadFault.TheVariants as read_faults
use Rattle.cwr_files.specs.Prefixes.{IsSettled, IsUnsettled}

-- the sender that a body is read for, and the bytes that are kept of it
pub record Fed : Type 0 where
  pub sender : List ℕ
  pub body : List ℕ

-- a reader knows a fault of what it was fed, whatever follows
abbrev pub KnowsFault : Fed → Type 0
KnowsFault reader = (fault : FileFault) × IsSettled reader.sender reader.body fault

-- bytes that a reader may have been fed: those that it keeps, and behind a fault that it knows any others
pub record WasFed (reader : Fed) (bytes : List ℕ) : Type 0 where
  pub dropped : List ℕ
  pub joined : bytes ≡ reader.body ++ dropped
  pub whole : (dropped ≡ []) ⊎ KnowsFault reader

-- a reader kept a piece, or a front of it, and from the bytes that it keeps this fault is known, whatever follows
pub record Stops (old : Fed) (piece : List ℕ) (new : Fed) (fault : FileFault) : Type 0 where
  pub sender : new.sender ≡ old.sender
  pub dropped : List ℕ
  pub joined : old.body ++ piece ≡ new.body ++ dropped
  pub settled : IsSettled new.sender new.body fault

-- a reader took a piece whole, and no fault is known yet; or it answered the fault that each body has that goes on so; or memory ran out, and nothing changed
abbrev pub Feeds : Fed → List ℕ → Fed → Result (Unit {0}) ReadFault → Type 0
Feeds old piece new (Ok done) = (new ≡ record old { body = old.body ++ piece }) × IsUnsettled new.sender new.body
Feeds old piece new (Err (read_faults.File fault)) = Stops old piece new fault
Feeds old piece new (Err read_faults.Memory) = (new ≡ old) × IsUnsettled old.sender old.body

-- behind a fault that is known, it is answered and nothing more is kept
abbrev pub StaysSettled : Fed → Fed → Result (Unit {0}) ReadFault → Type 0
StaysSettled old new result =
    (fault : FileFault) → IsSettled old.sender old.body fault → (result ≡ Err (read_faults.File fault)) × (new ≡ old)
