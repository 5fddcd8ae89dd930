use Rattle.std.proofs.Common.{◌∙◌, IsTrue, ap, false, rules, sym}
use Rattle.cwr_files.specs.FileFault.{file_fault}
use Rattle.society_core.specs.Answers.{arrival_at, place_in_book}
use Rattle.society_core.specs.Book.{with_transmission}
use Rattle.society_core.specs.Requests.{Arrived, Puts, Refused}
use Rattle.society_core.specs.declared.refusal.Refusal.TheVariants.{File}
use Rattle.society_core.specs.declared.refusal.Refusal.TheVariants as refusals
use Rattle.society_core.proofs.lemmas.Known.{put_added, put_ended, put_ended_faulty}
use Rattle.society_core.proofs.lemmas.Told.{told_added, told_known}
use Rattle.society_core.proofs.desk.Desk.put_kept.Goals as goal

pub add_transmission-requires-clause-free : goal.add_transmission-requires-clause-free
add_transmission-requires-clause-free g c = search rules

pub returns : goal.returns
returns g c =
    let state = g.S.Store.state in
    let laws = g.met.S.Store.laws in
    let old = state c.args.self.now in
    let mid = state c.known_transmission.new.self in
    let q = rw (c.self.view_is, c.body.ensures) at c.in_ok-place.ensures.question in
    let s = c.args.sender.now in
    let n = c.args.number in
    let body = c.args.reader.body in
    let right = sym c.in_default.is ∙ c.fault-in-Absent.ensures ∙ ap (λ x. file_fault x body) c.requires in
    let due = λ (clean : IsTrue mid.is_clean). put_added old.office old.book s n body (rw c.in-Absent.is at (q.answer clean)) right in
    let next_is = λ (clean : IsTrue mid.is_clean).
    ap (λ b. with_transmission b c.args.reader.sender n body) (q.asks.same clean) ∙ ap (λ x. with_transmission old.book x n body) c.requires in
    told_added old mid (state c.add_transmission.new.self) (laws _) (laws _) q.asks (Puts s n body) _ _ c.in_ok-place-in-Absent.place c.in_ok-place-in-Absent.ensures
    (λ clean. next_is clean ∙ sym (due clean).1)
    (Arrived c.arrival-in-Absent.result)
    (λ clean place.
    ap (λ a. Arrived a)
    (c.arrival-in-Absent.ensures
    ∙ ap (arrival_at false)
    (place ∙ ap (λ b. place_in_book b c.args.reader.sender n) (next_is clean) ∙ ap (λ x. place_in_book (with_transmission old.book s n body) x n) c.requires))
    ∙ sym (due clean).0)

pub returns-in-Some : goal.returns-in-Some
returns-in-Some g c =
    let state = g.S.Store.state in
    let old = state c.args.self.now in
    let q = rw (c.self.view_is, c.body.ensures) at c.in_ok-place.ensures.question in
    told_known old (state c.known_transmission.new.self) (g.met.S.Store.laws _) (g.met.S.Store.laws _) q.asks q.answered (Puts c.args.sender.now c.args.number c.args.reader.body) (Refused (File c.in-Some.fault))
    (λ honest.
    put_ended_faulty old.office old.book c.args.sender.now c.args.number c.args.reader.body c.in-Ended.last (rw c.in-Ended.is at (q.truth honest)) c.in-Some.fault
    (c.in-Some.ensures ∙ ap (λ x. file_fault x c.args.reader.body) c.requires))

pub returns-in-Ended : goal.returns-in-Ended
returns-in-Ended g c =
    let state = g.S.Store.state in
    let old = state c.args.self.now in
    let q = rw (c.self.view_is, c.body.ensures) at c.in_ok-place.ensures.question in
    told_known old (state c.known_transmission.new.self) (g.met.S.Store.laws _) (g.met.S.Store.laws _) q.asks q.answered (Puts c.args.sender.now c.args.number c.args.reader.body) (Refused (refusals.Ended c.in-Ended.last))
    (λ honest.
    put_ended old.office old.book c.args.sender.now c.args.number c.args.reader.body c.in-Ended.last (rw c.in-Ended.is at (q.truth honest))
    (c.in-None.ensures ∙ ap (λ x. file_fault x c.args.reader.body) c.requires))
