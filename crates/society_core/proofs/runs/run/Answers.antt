use Rattle.std.proofs.Common.{List, ◌++◌, ◌∷◌, [], ap, subst, sym, take, ◌∙◌, arith}
use Rattle.std.proofs.lemmas.List.{take_more, take_all}
use Rattle.share_rules.specs.declared.office.Office.{Office}
use Rattle.society_core.specs.Requests.{query_of, reply_of}
use Rattle.society_core.specs.Runs.{Step, AppendsRun}
use Rattle.society_core.specs.declared.request.Request.{Request}
use Rattle.society_core.specs.declared.answers.Answer.{Answer}
use Rattle.society_core.proofs.lemmas.CleanStores.{stays_through}
use Rattle.society_core.proofs.lemmas.HeadlineLemmas.{tells_what_came}
use Rattle.society_core.proofs.lemmas.RunLemmas.{appends_more}
use Rattle.society_core.proofs.runs.run.Goals as goal

pub loop-request-preserved : goal.loop-request-preserved
loop-request-preserved g c =
    let state = g.S.Store.state in
    let length_is = rw c.unwrap.ensures at c.push.ensures.len in
    let items_are = rw c.unwrap.ensures at c.push.ensures.items in
    let requests = c.args.requests.now in
    let request = c.request-item.result in
    let index = c.loop-request.request-index in
    let first = c.args.desk.now in
    let before = c.loop-request.desk in
    let after = c.answer-answer.new.desk in
    record {
      room = omega (arith, length_is, c.push.ensures.capacity);
      clean = λ still. c.loop-request.invariant.clean (c.answer-answer.ensures.proceeds.goes.clean still);
      honest = λ told. c.loop-request.invariant.honest (c.answer-answer.ensures.proceeds.goes.honest told);
      faults = omega (arith, c.loop-request.invariant.faults, c.answer-answer.ensures.proceeds.goes.faults);
      stays =
          stays_through (state first) (state before) (state after) c.loop-request.invariant.stays c.answer-answer.ensures.proceeds.goes.stays c.answer-answer.ensures.proceeds.goes.honest
          c.loop-request.invariant.faults c.answer-answer.ensures.proceeds.goes.faults;
      office = c.answer-answer.ensures.proceeds.goes.office ∙ c.loop-request.invariant.office;
      ran =
          subst
          (λ (xs : List Request). AppendsRun (state first).office (state first).book (state after).book (state after).is_clean xs c.reserve.new.self.items c.push.new.self.items)
          (sym (take_more requests index request c.loop-request-test.true ∙ ap (λ (x : Request). take index requests ++ x ∷ []) (sym c.request-item.is)))
          (appends_more (state first).office (state first).book (state before).book (state after).book (state before).is_clean (state after).is_clean (take index requests) c.reserve.new.self.items c.loop-request.answers.items c.push.new.self.items request c.answer-answer.result c.loop-request.invariant.ran
          c.answer-answer.ensures.proceeds.goes.clean
          (λ still.
          subst (λ (x : Office). Step x (state before).book (query_of request) (reply_of c.answer-answer.result) (state after).book) c.loop-request.invariant.office
          (c.answer-answer.ensures.proceeds.step still))
          items_are);
    }

pub returns-clause-headline : goal.returns-clause-headline
returns-clause-headline g c = λ still.
    let state = g.S.Store.state in
    let first = c.args.desk.now in
    let last = c.loop-request.desk in
    let requests = c.args.requests.now in
    let all = take_all c.loop-request.request-index requests c.loop-request-test.false in
    let ran =
    subst
    (λ (xs : List Request). AppendsRun (state first).office (state first).book (state last).book (state last).is_clean xs c.reserve.new.self.items c.loop-request.answers.items) all
    c.loop-request.invariant.ran in
    let from_old =
    subst
    (λ (xs : List Answer). AppendsRun (state first).office (state first).book (state last).book (state last).is_clean requests xs c.loop-request.answers.items) c.reserve.ensures.items ran in
    tells_what_came (state first).office (state first).book (state last).book (state last).is_clean requests c.args.answers.now.items c.loop-request.answers.items from_old still

pub returns-clause-sound : goal.returns-clause-sound
returns-clause-sound g c = λ clean.
    let first = c.args.desk.now in
    let last = c.loop-request.desk in
    ((g.met.S.Store.laws first).sound (c.loop-request.invariant.clean clean), (g.met.S.Store.laws last).sound clean)
