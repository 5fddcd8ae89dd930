use Rattle.std.proofs.Common.{◌≡◌, Ok, ap, ap₂, nat_lt, subst, sym, rules}
use Rattle.sqlite.specs.Effect.{Database}
use Rattle.sqlite.specs.Held.{state}
use Rattle.society_core.proofs.lemmas.Stores.{transmission_entry}
use Rattle.society_core.specs.Answers.{place_by}
use Rattle.society_core.specs.declared.store.NumberPlace.{NumberPlace}
use Rattle.society_arrivals.specs.Arriving.{ArrivesBy, ArrivesWith, TakesRun}
use Rattle.society_arrivals.proofs.lemmas.ArrivedRuns.{arrives_with}
use Rattle.society_book.proofs.lemmas.together.StepLemmas.{does_as, does_open_then, does_then}
use Rattle.society_arrivals.proofs.arrivals.arrive_inside.Goals as goal

pub returns : goal.returns
returns g c = record {
  does = record {
    same_reference = search rules;
    says =
        let o = c.args.office.now in
        let s = c.args.sender.now in
        let n = c.args.number in
        let body = c.args.body.now in
        let reached = c.in_ok-reached.reached in
        let run = c.in_ok-run.run' in
        let old = state g.S.Store c.args.tx.now.conn.now in
        let mid = state g.S.Store c.reached_in.new.tx.conn.now in
        let later = state g.S.Store c.run_from.new.tx.conn.now in
        let new = state g.S.Store c.take_run.new.tx.conn.now in
        let entry = transmission_entry s n body c.as_bytes.ensures.key c.value-number.ensures.number c.requires.right in
        let place : NumberPlace = place_by run.reached (nat_lt reached.front run.reached) in
        let is : place ≡ place_by c.front.result (nat_lt reached.front c.front-2.result) = ap₂ place_by (sym c.front.ensures) (ap (nat_lt reached.front) (sym c.front-2.ensures)) in
        does_open_then old mid new reached (Ok _) _ (λ before after y. ArrivesBy o s n body reached.front before.trees run × TakesRun s n body reached.works run before.trees after.trees × (y ≡ place)) _ (rw c.as_bytes.ensures.bytes at c.in_ok-reached.ensures.looks.says)
        (does_as mid new tt (Ok _) (λ before after _. ArrivesBy o s n body reached.front before.trees run × TakesRun s n body reached.works run before.trees after.trees) (λ before after y. ArrivesBy o s n body reached.front before.trees run × TakesRun s n body reached.works run before.trees after.trees × (y ≡ place))
        (does_then mid later new run (Ok tt) _ (λ before after _. TakesRun s n body reached.works run before.trees after.trees) _ c.in_ok-run.ensures.looks.says c.in_ok-take_run.ensures.does.says
        (λ y two three. (two.1, subst (λ (db : Database). TakesRun s n body reached.works run db.trees new.now.trees) two.0 three)))
        (λ both. (both.0, both.1, sym is)))
        (λ y one both.
        subst (λ (p : NumberPlace). ArrivesWith o s n body old.now.trees new.now.trees p) (sym both.2)
        (arrives_with o s n body reached.front reached.works run old.now.trees new.now.trees entry one.1
        (subst (λ (db : Database). ArrivesBy o s n body reached.front db.trees run) one.0 both.0)
        (subst (λ (db : Database). TakesRun s n body reached.works run db.trees new.now.trees) one.0 both.1)));
  };
}
