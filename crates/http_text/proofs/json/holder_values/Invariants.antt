use Rattle.std.proofs.Common.{◌≡◌, map, take}
use Rattle.serde_json.specs.View.{view}
use Rattle.http_text.specs.Json.{holder_json}
use Rattle.http_text.proofs.json.holder_values.Given as goal

abbrev pub invariant-loop-holder : goal.invariant-loop-holder
invariant-loop-holder l = map view l.values.items ≡ map holder_json (take l.holder-index l.holders)
