use Rattle.std.proofs.Common.{subst, sym}
use Rattle.share_rules.specs.declared.office.Office.{Office}
use Rattle.http_desk.specs.declared.input.Input.{Input}
use Rattle.http_text.specs.declared.requests.Wanted.TheVariants.{Fed, Whole}
use Rattle.http_desk.specs.Head.{HasHead}
use Rattle.http_desk.specs.Input.{unread}
use Rattle.http_desk.specs.Asks.{AsksFor}
use Rattle.http_desk.proofs.answering.answer_head.Goals as goal

pub answer_fed-requires-clause-asks : goal.answer_fed-requires-clause-asks
answer_fed-requires-clause-asks g c =
    let P : Input → Type 0 = λ i. AsksFor (g.S.Store.state c.args.desk.now).office.society (unread i) c.args.head (Fed c.in-Fed.key) in
    let Q : Office → Type 0 = λ o. AsksFor o.society (unread c.args.room.now.input) c.args.head (Fed c.in-Fed.key) in
    subst P (sym c.wanted_at_front.ensures.input) (subst Q c.office.ensures c.in-Fed.ensures.asks)

pub answer_whole-requires : goal.answer_whole-requires
answer_whole-requires g c =
    let P : Input → Type 0 = λ i. HasHead (unread i) c.args.head in
    let Q : Input → Type 0 = λ i. AsksFor (g.S.Store.state c.args.desk.now).office.society (unread i) c.args.head (Whole c.in-Whole.wanted) in
    let R : Office → Type 0 = λ o. AsksFor o.society (unread c.args.room.now.input) c.args.head (Whole c.in-Whole.wanted) in
    let same = sym c.wanted_at_front.ensures.input in
    record { ready = c.wanted_at_front.ensures.ready; head = subst P same c.requires.head; asks = subst Q same (subst R c.office.ensures c.in-Whole.ensures.asks) }
