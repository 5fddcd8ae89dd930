use Rattle.std.proofs.Common.{rules, ◌∙◌, sym}
use Rattle.std.proofs.lemmas.Str.{IsUtf8-from_ascii}
use Rattle.http_text.proofs.lemmas.PathLemmas.{route_text, ascii_from_path}
use Rattle.http_text.proofs.requests.wanted_for.Goals as goal

pub returns-in_default : goal.returns-in_default
returns-in_default c = record {
  asks = λ body.
      absurd (c.in_default.ensures.cases.0 (IsUtf8-from_ascii _ (ascii_from_path c.args.target.now (sym c.is_path.ensures ∙ c.if-not-is_path.false))));
}

pub put_of-requires : goal.put_of-requires
put_of-requires c =
    let found = rw c.requires.routes at c.in-Ok-at.ensures.found in
    let plain = ascii_from_path c.args.target.now (sym c.is_path.ensures ∙ c.if-not-is_path.false) in
    record { text = rw c.in-Ok-at.ensures.path (route_text _ _ found (rw c.in-Ok.ensures.cases.0 plain)); short = search rules }

pub get_of-requires : goal.get_of-requires
get_of-requires c =
    let found = rw c.requires.routes at c.in-Ok-at.ensures.found in
    let plain = ascii_from_path c.args.target.now (sym c.is_path.ensures ∙ c.if-not-is_path.false) in
    record { text = rw c.in-Ok-at.ensures.path (route_text _ _ found (rw c.in-Ok.ensures.cases.0 plain)); short = search rules }
