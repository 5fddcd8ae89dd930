use Rattle.std.proofs.Common.{ℕ, List, ap, sym, ◌∙◌}
use Rattle.http_text.specs.Path.{request_of}
use Rattle.http_text.specs.Wanted.{asked_whole}
use Rattle.http_desk.proofs.lemmas.AnsweringLemmas.{body_at}
use Rattle.http_desk.proofs.answering.answer_front.Goals as goal

pub returns : goal.returns
returns g c = λ has. c.ask.ensures (request_of (g.S.Store.state c.args.desk.now).office.society has.part) (sym (c.requires.asks has) ∙ ap (λ (v : List ℕ). asked_whole c.args.wanted v) (body_at c.args.bytes.now c.args.head.now has) ∙ sym c.in-Ok.ensures.asks)
