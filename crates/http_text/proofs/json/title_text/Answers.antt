use Rattle.http_text.proofs.lemmas.JsonLemmas.{title_escaped}
use Rattle.http_text.proofs.json.title_text.Goals as goal

pub returns : goal.returns
returns c = rw (c.in_ok-append_to.ensures.ok, c.new-text.ensures.bytes, c.percent_encode.ensures.text) (title_escaped c.args.title.now)
