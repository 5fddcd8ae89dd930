use Rattle.std.proofs.Common.{List, ℕ, subst, sym}
use Rattle.society_core.specs.Requests.{reply_of}
use Rattle.http_text.specs.declared.requests.Wanted.TheVariants.{Whole}
use Rattle.http_text.specs.Told.{told_reply}
use Rattle.http_desk.specs.Asks.{PartAsks}
use Rattle.http_text.proofs.lemmas.StepLemmas.{tells_call}
use Rattle.http_desk.proofs.answering.answer_next.Goals as goal

pub returns-clause-step : goal.returns-clause-step
returns-clause-step g c =
    let step = rw c.unread-bytes.ensures at c.answer_front-answer.ensures in
    λ has. tells_call g.S.Store.state c.args.desk.now c.answer_front-answer.new.desk _ (reply_of c.answer_front-answer.result) (told_reply c.tell.result) c.tell.ensures.tells (step has)

pub answer_front-answer-requires-clause-asks : goal.answer_front-answer-requires-clause-asks
answer_front-answer-requires-clause-asks g c =
    let P : List ℕ → Type 0 = λ v. PartAsks (g.S.Store.state c.args.desk.now).office.society v c.args.head.now (Whole c.args.wanted) in
    subst P (sym c.unread-bytes.ensures) c.requires.asks
