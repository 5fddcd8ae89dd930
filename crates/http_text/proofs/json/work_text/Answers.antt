use Rattle.std.proofs.Common.{◌≡◌, Option, Some, None, List, ℕ, false, refl}
use Rattle.serde_json.specs.Data.{string}
use Rattle.serde_json.specs.Written.{has_float}
use Rattle.society_core.specs.Requests.{shown_of}
use Rattle.http_text.specs.Json.{holder_json, iswc_json, work_json, work_json_text}
use Rattle.http_text.proofs.lemmas.JsonLemmas.{items_without_float, number_without_float, text_is}
use Rattle.http_text.proofs.json.work_text.Goals as goal

none : (iswc : Option (List ℕ)) → has_float (iswc_json iswc) ≡ false
none (Some iswc) = refl
none None = refl

pub returns : goal.returns
unfolding work_json_text
returns c =
    let work = shown_of c.args.work.now in
    text_is c.text_of.result _ (work_json work) c.in_ok-value.ensures
    (rw (items_without_float holder_json work.holders (λ _. refl), items_without_float string work.isrcs (λ _. refl), none work.iswc, number_without_float work.version.transmission) refl)
    c.text_of.ensures
