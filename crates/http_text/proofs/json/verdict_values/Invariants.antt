use Rattle.std.proofs.Common.{◌≡◌, map, take}
use Rattle.serde_json.specs.View.{view}
use Rattle.http_text.specs.Json.{verdict_json}
use Rattle.http_text.proofs.json.verdict_values.Given as goal

abbrev pub invariant-loop-verdict : goal.invariant-loop-verdict
invariant-loop-verdict l = map view l.values.items ≡ map verdict_json (take l.verdict-index l.verdicts)
