-- How long is waited for a peer, and what is tried again where a connection can't be accepted.
use Rattle.std.specs.Prelude.{◌≡◌, ◌≤◌, Bool, true, false, Option, Some, None, ℕ, ℤ, pos, min, Result, Ok, Err, ◌||◌, ◌+◌, ◌*◌, ◌-◌, ◌/◌, ◌^◌}
use Rattle.std.specs.Duration.{as_nanos, max_nanos}
use Rattle.std.specs.Ordering.{int_eq}
use Rattle.std.specs.declared.io.ErrorKind.{ErrorKind}
use Rattle.std.specs.declared.io.ErrorKind.TheVariants.{ConnectionAborted}
use Rattle.society_host.specs.declared.waits.Waits.{Waits}

-- whether an error of this kind is that a peer went before it was accepted
abbrev pub is_aborted : ErrorKind → Bool
is_aborted ConnectionAborted = true
is_aborted _ = false

-- whether an error says nothing of the listener, by the system's number and its kind: no descriptor is left in the whole system (23, `ENFILE`) or in this process (24, `EMFILE`), or the peer went
abbrev pub is_passing : Option ℤ → ErrorKind → Bool
is_passing (Some number) kind = int_eq number (pos 23) || (int_eq number (pos 24) || is_aborted kind)
is_passing None kind = is_aborted kind

-- for how many nanoseconds a way of a connection may wait in all, by its patience in seconds and the bytes that came or went: its patience, and as much again for each MiB (profile); the machine counts no more than 2^64 - 1 seconds
abbrev pub nanos_allowed : ℕ → ℕ → ℕ
nanos_allowed patience moved = min (patience * (1 + moved / 1048576)) (2 ^ 64 - 1) * 10 ^ 9

-- none of its patience is spent, and nothing moved
abbrev pub IsUnspent : Waits → Type 0
IsUnspent waits = (as_nanos waits.waited ≡ 0) × (waits.moved ≡ 0)

-- the patience of a way is spent: it has waited as long as it may for what has moved
abbrev pub IsSpent : Waits → Type 0
IsSpent waits = nanos_allowed waits.patience waits.moved ≤ as_nanos waits.waited

-- how many bytes moved by what a read or a write came to
abbrev pub moved_by : {E : Type 0} → Result ℕ E → ℕ
moved_by (Ok count) = count
moved_by (Err fault) = 0

-- what a read or a write came to was taken down, as far as it can be counted: the bytes that moved, and a time that it waited
pub record TakesDown {E : Type 0} (old new : Waits) (outcome : Result ℕ E) : Type 0 where
  pub patience : new.patience ≡ old.patience
  pub moved : new.moved ≡ min (old.moved + moved_by outcome) (2 ^ 64 - 1)
  pub waited : (spent : ℕ) × (as_nanos new.waited ≡ min (as_nanos old.waited + spent) max_nanos)
