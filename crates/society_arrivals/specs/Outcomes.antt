-- Settled transactions as the office works them out, and what follows of the end of the line before them (representation).
use Rattle.std.specs.Prelude.{ℕ, ◌++◌, ◌≡◌, Bool, List, map}
use Rattle.works_core.specs.Ends.{EndsAt, KnowsWorks}
use Rattle.works_core.specs.Versions.{Placed, judged_of}
use Rattle.works_core.specs.Verdicts.{verdicts_from}
use Rattle.works_core.specs.declared.judged.Judged.{Judged}
use Rattle.works_core.specs.declared.line_end.LineEnd.{LineEnd}
use Rattle.society_arrivals.specs.Runs.{KnowsRun, Notes, Settled, settled_from}
use Rattle.society_arrivals.specs.declared.outcomes.Outcome.{Outcome}

-- a transaction as it is settled
abbrev pub settled : Outcome → Settled
settled x = record { number = x.number; place = x.place; work = x.work.now; isrcs = x.isrcs.now; verdict = x.verdict }

-- said of every line that ends so, where the works of these transactions are known
abbrev pub FromEnd : LineEnd → List Judged → ((List ℕ → Bool) → List Placed → Type 0) → Type 0
FromEnd end judged Says = (known : List ℕ → Bool) (past : List Placed) → EndsAt known past end → KnowsWorks known judged → Says known past

-- said of every line that ends so, where the works of a run are known
abbrev pub FromEndOf : LineEnd → List Notes → ((List ℕ → Bool) → List Placed → Type 0) → Type 0
FromEndOf end run Says = (known : List ℕ → Bool) (past : List Placed) → EndsAt known past end → KnowsRun known run → Says known past

-- outcomes have these transactions more
abbrev pub AddsSettled : List Settled → List Outcome → List Outcome → Type 0
AddsSettled more old new = map settled new ≡ map settled old ++ more

-- the transactions of a transmission as they are settled behind those before it
abbrev pub settled_behind : List Placed → Notes → List Settled
settled_behind past notes = settled_from notes.number 0 notes.judged notes.isrcs (verdicts_from (judged_of past) notes.judged)
