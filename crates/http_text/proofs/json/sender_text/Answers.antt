use Rattle.std.proofs.Common.{refl}
use Rattle.http_text.specs.Json.{number_json, sender_json, sender_json_text}
use Rattle.http_text.proofs.lemmas.JsonLemmas.{items_without_float, number_without_float, text_is}
use Rattle.http_text.proofs.json.sender_text.Goals as goal

pub returns : goal.returns
unfolding sender_json_text
returns c =
    let status = c.args.status.now in
    let none = items_without_float number_json status.held.items number_without_float in
    text_is c.text_of.result _ (sender_json status.front status.held.items) c.in_ok-value.ensures (rw (number_without_float status.front, none) refl) c.text_of.ensures
