-- Which refusal a fault of a lower layer becomes.
use Rattle.std.specs.Prelude.{◌≡◌}
use Rattle.perf_returns.specs.declared.fault.ReturnError.{ReturnError}
use Rattle.perf_returns.specs.declared.fault.ReturnError.TheVariants as errors
use Rattle.society_core.specs.declared.refusal.Refusal.{Refusal}
use Rattle.society_core.specs.declared.refusal.Refusal.TheVariants.{Csv, Unavailable}

-- a return fault is told, and want of memory makes the office unavailable
abbrev pub refusal_for_return : ReturnError → Refusal → Type 0
refusal_for_return (errors.Csv fault) refusal = refusal ≡ Csv fault
refusal_for_return errors.Memory refusal = refusal ≡ Unavailable
