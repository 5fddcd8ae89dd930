use Rattle.std.proofs.Common.{refl}
use Rattle.http_text.specs.Json.{balance_json, balance_json_text}
use Rattle.http_text.proofs.lemmas.JsonLemmas.{text_is}
use Rattle.http_text.proofs.json.balance_text.Goals as goal

pub returns : goal.returns
unfolding balance_json_text
returns c = text_is c.text_of.result _ (balance_json c.args.account.now c.args.units) c.in_ok-value.ensures refl c.text_of.ensures
