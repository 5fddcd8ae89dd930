use Rattle.std.proofs.Common.{◌≡◌, ◌∷◌, ◌++◌, [], map, take}
use Rattle.sqlite_value.specs.declared.value.Value.TheVariants.{Int, Text}
use Rattle.society_rows.specs.Rows.{recording_values}
use Rattle.society_arrivals.proofs.outcomes.append_isrcs.Given as goal

abbrev pub invariant-loop-isrc : goal.invariant-loop-isrc
invariant-loop-isrc l =
    map recording_values l.rows.items ≡ map recording_values l.initial.rows.items ++ map (λ isrc. Text l.sender ∷ Text l.work ∷ Int l.revision ∷ Text isrc ∷ []) (take l.isrc-index l.isrcs)
