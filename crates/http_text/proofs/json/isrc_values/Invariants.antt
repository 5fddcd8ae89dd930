use Rattle.std.proofs.Common.{◌≡◌, map, take}
use Rattle.serde_json.specs.View.{view}
use Rattle.serde_json.specs.Data.{string}
use Rattle.http_text.proofs.json.isrc_values.Given as goal

abbrev pub invariant-loop-isrc : goal.invariant-loop-isrc
invariant-loop-isrc l = map view l.values.items ≡ map string (take l.isrc-index l.isrcs)
