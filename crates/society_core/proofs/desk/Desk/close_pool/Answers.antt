use Rattle.std.proofs.Common.{◌≡◌, ◌∙◌, IsTrue, ap, inl, inr, sym, rules}
use Rattle.society_core.specs.Answers.{cut_refusal, first_refusal, return_refusal}
use Rattle.society_core.specs.Book.{with_pool}
use Rattle.society_core.specs.Requests.{Closed, Closes, Refused, told}
use Rattle.society_core.specs.declared.answers.Receipt.TheVariants.{New}
use Rattle.society_core.specs.declared.refusal.Refusal.{Refusal}
use Rattle.society_core.proofs.lemmas.Known.{close_added, close_cut, close_return}
use Rattle.society_core.proofs.lemmas.Told.{asks_on, told_added, told_or_busy}
use Rattle.society_core.proofs.desk.Desk.close_pool.Goals as goal

pub returns-in_err-check_cut-in-Absent : goal.returns-in_err-check_cut-in-Absent
returns-in_err-check_cut-in-Absent g c =
    let state = g.S.Store.state in
    let laws = g.met.S.Store.laws in
    let old = state c.args.self.now in
    let pool = c.args.pool in
    let order = c.args.order.now in
    let refused = c.in_err-check_cut-in-Absent.field-0.0 in
    let check = rw c.cut.ensures.value at c.in_err-check_cut-in-Absent.ensures in
    let q = rw c.self.view_is at c.in_ok-known_pool.ensures in
    let reply : told (λ receipt. Closed receipt pool) c.from_residual-in_err-check_cut-in-Absent.result ≡ Refused refused = search rules in
    told_or_busy old (state c.check_cut.new.self) (laws _) (laws _) (asks_on old (state c.known_pool.new.self) (state c.check_cut.new.self) q.asks check.asks) (λ honest. q.answered (check.asks.goes.honest honest)) (Closes pool order) _
    (λ honest.
    let absent = rw c.in-Absent.is at (q.truth (check.asks.goes.honest honest)) in
    elim (check.told honest) [
      | inl due ↦
          let says = close_cut old.office old.book pool order absent refused (ap (λ b. first_refusal (cut_refusal b) order.cut) (sym (q.asks.same due.0)) ∙ due.1) in
          inr (reply ∙ says.0, says.1)
      | inr busy ↦ inl (reply ∙ ap (λ (r : Refusal). Refused r) busy)
    ])

pub returns-in_err-check_returns-in-Absent : goal.returns-in_err-check_returns-in-Absent
returns-in_err-check_returns-in-Absent g c =
    let state = g.S.Store.state in
    let laws = g.met.S.Store.laws in
    let old = state c.args.self.now in
    let mid = state c.known_pool.new.self in
    let then = state c.check_cut.new.self in
    let new = state c.check_returns.new.self in
    let pool = c.args.pool in
    let order = c.args.order.now in
    let refused = c.in_err-check_returns-in-Absent.field-0.0 in
    let q = rw c.self.view_is at c.in_ok-known_pool.ensures in
    let cut = rw c.cut.ensures.value at c.in_ok-check_cut-in-Absent.ensures in
    let check = rw c.returns.ensures.value at c.in_err-check_returns-in-Absent.ensures in
    let reply : told (λ receipt. Closed receipt pool) c.from_residual-in_err-check_returns-in-Absent.result ≡ Refused refused = search rules in
    told_or_busy old new (laws _) (laws _) (asks_on old then new (asks_on old mid then q.asks cut.asks) check.asks) (λ honest. q.answered (cut.asks.goes.honest (check.asks.goes.honest honest))) (Closes pool order) _
    (λ honest.
    let told_then = check.asks.goes.honest honest in
    let absent = rw c.in-Absent.is at (q.truth (cut.asks.goes.honest told_then)) in
    elim (check.told honest) [
      | inl due ↦
          let same = q.asks.same (cut.asks.goes.clean due.0) in
          let says = close_return old.office old.book pool order absent refused
          (ap (λ b. first_refusal (cut_refusal b) order.cut) (sym same) ∙ cut.told told_then)
          (ap (λ b. first_refusal (return_refusal b) order.returns) (sym (cut.asks.same due.0 ∙ same)) ∙ due.1) in
          inr (reply ∙ says.0, says.1)
      | inr busy ↦ inl (reply ∙ ap (λ (r : Refusal). Refused r) busy)
    ])

pub returns-in_ok-add_pool-in-Absent : goal.returns-in_ok-add_pool-in-Absent
returns-in_ok-add_pool-in-Absent g c =
    let state = g.S.Store.state in
    let laws = g.met.S.Store.laws in
    let old = state c.args.self.now in
    let mid = state c.known_pool.new.self in
    let then = state c.check_cut.new.self in
    let last = state c.check_returns.new.self in
    let pool = c.args.pool in
    let order = c.args.order.now in
    let q = rw c.self.view_is at c.in_ok-known_pool.ensures in
    let cut = rw c.cut.ensures.value at c.in_ok-check_cut-in-Absent.ensures in
    let check = rw c.returns.ensures.value at c.in_ok-check_returns-in-Absent.ensures in
    let asks = asks_on old then last (asks_on old mid then q.asks cut.asks) check.asks in
    let due = λ (clean : IsTrue last.is_clean).
    let was = check.asks.goes.clean clean in
    let same = q.asks.same (cut.asks.goes.clean was) in
    close_added old.office old.book pool order (rw c.in-Absent.is at (q.answer (cut.asks.goes.clean was)))
    (ap (λ b. first_refusal (cut_refusal b) order.cut) (sym same) ∙ cut.refusal was)
    (ap (λ b. first_refusal (return_refusal b) order.returns) (sym (cut.asks.same was ∙ same)) ∙ check.refusal clean) in
    told_added old last (state c.add_pool.new.self) (laws _) (laws _) asks (Closes pool order) _ _ _ (rw c.self-in-Absent.view_is at c.in_ok-add_pool-in-Absent.ensures)
    (λ clean. ap (λ b. with_pool b pool order) (asks.same clean) ∙ sym (due clean).1)
    (Closed New pool)
    (λ clean _. (due clean).0)
