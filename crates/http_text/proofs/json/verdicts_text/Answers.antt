use Rattle.std.proofs.Common.{◌≡◌, false, refl}
use Rattle.serde_json.specs.Written.{has_float}
use Rattle.works_core.specs.declared.verdict.Verdict.{Verdict}
use Rattle.works_core.specs.declared.verdict.Verdict.TheVariants.{Accepted, Rejected}
use Rattle.http_text.specs.Json.{verdict_json, verdicts_json, verdicts_json_text}
use Rattle.http_text.proofs.lemmas.JsonLemmas.{items_without_float, text_is}
use Rattle.http_text.proofs.json.verdicts_text.Goals as goal

none : (verdict : Verdict) → has_float (verdict_json verdict) ≡ false
none (Accepted ordinal revision) = refl
none (Rejected fault) = refl

pub returns : goal.returns
unfolding verdicts_json_text
returns c =
    text_is c.text_of.result _ (verdicts_json c.args.verdicts.now) c.in_ok-value.ensures (items_without_float verdict_json c.args.verdicts.now none) c.text_of.ensures
