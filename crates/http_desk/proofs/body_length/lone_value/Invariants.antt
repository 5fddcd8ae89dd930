use Rattle.std.proofs.Common.{◌≡◌, ◌++◌, map, drop}
use Rattle.httparse.specs.Spans.{header_bytes}
use Rattle.http_text.specs.BodyLength.{field_values}
use Rattle.http_desk.proofs.lemmas.FieldLemmas.{found_values}
use Rattle.http_desk.proofs.body_length.lone_value.Given as goal

abbrev pub invariant-loop-header : goal.invariant-loop-header
invariant-loop-header l =
    field_values l.name (map (header_bytes l.bytes) l.headers)
    ≡ found_values l.found ++ field_values l.name (map (header_bytes l.bytes) (drop l.header-index l.headers))
