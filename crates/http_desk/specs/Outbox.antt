-- Representation, not meaning: texts that were made and wait to be written together.
use Rattle.std.specs.Prelude.{◌≡◌, ℕ, List, ◌++◌, Option, Result, MatchResult}
use Rattle.std.specs.Io.KnownBytes.{Appends}
use Rattle.http_desk.specs.Counted.{AppendsFront, Known, WritesBytes, bytes_known}
use Rattle.http_desk.specs.declared.counted.Counted.{Counted}
use Rattle.http_desk.specs.declared.outbox.Outbox.{Outbox}

-- the bytes that wait
abbrev pub waiting : Outbox → List ℕ
waiting outbox = outbox.bytes.items

-- of these bytes all were appended to what the writer holds but the last ones, which wait
abbrev pub Sends : Option (List ℕ) → Option (List ℕ) → List ℕ → List ℕ → Type 0
Sends holds new_holds bytes waiting = (sent : List ℕ) × (bytes ≡ sent ++ waiting) × Appends holds new_holds sent

-- the same of a writer and the texts that waited for it and wait now
abbrev pub SendsTo : {W : Type 0} → Known W → Counted W → Counted W → Outbox → Outbox → Type 0
SendsTo contents writer new_writer outbox new_outbox =
    Sends (bytes_known contents writer) (bytes_known contents new_writer) (waiting outbox) (waiting new_outbox)

-- behind what waited these bytes were sent or wait, or after a failure a front of all was appended
abbrev pub Gathers : {T E : Type 0} → Result T E → Option (List ℕ) → Option (List ℕ) → List ℕ → List ℕ → List ℕ → Type 0
Gathers result holds new_holds old new bytes =
    MatchResult result (λ _. Sends holds new_holds (old ++ bytes) new) (λ _. AppendsFront holds new_holds (old ++ bytes))

-- the same of a writer and the texts that wait for it
abbrev pub PutsText : {W T E : Type 0} → Known W → Result T E → Counted W → Counted W → Outbox → Outbox → List ℕ → Type 0
PutsText contents result writer new_writer outbox new_outbox bytes =
    Gathers result (bytes_known contents writer) (bytes_known contents new_writer) (waiting outbox) (waiting new_outbox) bytes

-- all these bytes were written, or after a failure a front of them
abbrev pub Emits : {W T E : Type 0} → Known W → Result T E → Counted W → Counted W → List ℕ → Type 0
Emits contents result writer new_writer bytes =
    WritesBytes result (bytes_known contents writer) (bytes_known contents new_writer) bytes
