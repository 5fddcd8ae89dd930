use Rattle.std.proofs.Common.{◌≡◌, IfOk, ap, sym, subst, ◌∙◌, arith}
use Rattle.serde_json.specs.Data.{Data, string}
use Rattle.serde_json.specs.View.{view}
use Rattle.http_text.proofs.lemmas.JsonLemmas.{plain_json, year_json}
use Rattle.http_text.proofs.json.rank_value.Goals as goal

pub returns-then-rank-lt-FIRST_YEAR : goal.returns-then-rank-lt-FIRST_YEAR
returns-then-rank-lt-FIRST_YEAR c = c.from.ensures ∙ sym (plain_json c.args.rank (omega arith))

pub returns : goal.returns
returns c =
    let is = ap string (c.in_ok-from_slice.ensures.items ∙ c.dated_text_of.ensures) ∙ sym (year_json c.args.rank (omega arith)) in
    subst (λ (d : Data). IfOk c.string_value.result (λ value. view value ≡ d)) is c.string_value.ensures
