-- How a connection comes in and is let go, and what is dropped at its end.
use Rattle.std.specs.Prelude.{◌≡◌, ◌⊎◌, ◌≤◌, ◌-◌, ◌^◌, ℕ, List, Option, length}
use Rattle.std.specs.Io.KnownBytes.{Consumes}
use Rattle.society_host.specs.declared.network.Listener.{Ghosts as Listens}
use Rattle.society_host.specs.declared.network.Came.{Ghosts as Comes}
use Rattle.society_host.specs.declared.network.Stream.{Ghosts}

-- so many bytes, at most so many, were taken from the front of what was left
abbrev pub DropsFront : Option (List ℕ) → Option (List ℕ) → ℕ → ℕ → Type 0
DropsFront old new count most = (taken : List ℕ) × Consumes old new taken × (length taken ≡ count) × (count ≤ most)

-- at most so many bytes were taken from the front of what was left, and nothing else
abbrev pub DropsAtMost : Option (List ℕ) → Option (List ℕ) → ℕ → Type 0
DropsAtMost old new most = (taken : List ℕ) × Consumes old new taken × (length taken ≤ most)

-- one connection came in by what listens, and these are its two handles
abbrev pub AcceptsAnew : {L T S : Type 0} → Listens L T S → Comes T S → L → S → S → L → Type 0
AcceptsAnew {T = T} listens comes old sent given new = (came : T) × listens.accepts old came new × comes.has_handles came sent given

-- no connection could be accepted by what listens: it can't accept one, a connection that came in can have no two handles, or no more than so
-- many can be counted
abbrev pub CannotAccept : {L T S : Type 0} → Listens L T S → Comes T S → L → L → ℕ → Type 0
CannotAccept {T = T} listens comes old new accepted =
    listens.may_fail new ⊎ (((came : T) × listens.accepts old came new × comes.may_fail came) ⊎ (accepted ≡ 2 ^ 64 - 1))

-- A handle of a connection was let go of: nothing more was written to its peer, and at most 16 MiB of what that still sent were dropped before
-- (profile).
abbrev pub LetsGo : {S : Type 0} → Ghosts S → S → Type 0
LetsGo {S = S} streams stream =
    (last : S) × DropsAtMost (streams.remaining stream) (streams.remaining last) 16777216 × (streams.contents last ≡ streams.contents stream) × streams.is_gone last
