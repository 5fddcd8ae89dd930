use Rattle.std.proofs.Common.{◌≡◌, ◌∙◌, ◌&&◌, Bool, List, ℕ, ap, bytes_eq, subst, sym, true, rules}
use Rattle.std.specs.List.{list_any}
use Rattle.share_rules.specs.declared.kind.Kind.{Kind}
use Rattle.society_book.proofs.lemmas.together.StepLemmas.{looks_then}
use Rattle.society_closings.proofs.lemmas.cuts.CutLists.{lists_fewer}
use Rattle.society_closings.specs.CutWorks.{ListsWorks, is_of_cut, wants, wants_for}
use Rattle.society_core.specs.Candidates.{StandFor}
use Rattle.society_core.specs.Owners.{works_of_cut}
use Rattle.society_core.specs.Points.{is_tallied}
use Rattle.society_core.specs.Pools.{holders_of}
use Rattle.society_core.specs.declared.transmission_key.TransmissionKey.{TransmissionKey}
use Rattle.sqlite.specs.Held.{state}
use Rattle.order_credits.proofs.sharing.candidates_for.Goals as goal

pub returns : goal.returns
returns g c = record {
  looks = record {
    same_reference = search rules;
    says =
        let o = c.args.office.now in
        let order = c.args.order.now in
        let isrcs = c.args.isrcs.now in
        let tally = c.in_ok-tally.tally in
        let tallied = c.in_ok-tally.ensures.tallied in
        let listed = c.in_ok-works.field-0 in
        let wanted = c.add.new.self in
        let old = state g.S.Store c.args.tx.now.conn.now in
        let one = state g.S.Store c.works.new.tx.conn.now in
        let new = state g.S.Store c.candidates_in.new.tx.conn.now in
        let cut : c.cut.result.now ≡ order.cut = c.cut.ensures.value in
        let fewer : (s isrc : List ℕ) → wants_for order.cut (is_tallied tally) s isrc ≡ true → wants wanted s isrc ≡ true =
        λ s isrc h. c.in_ok-add.ensures.wants s isrc
        (ap (λ (ks : List TransmissionKey). is_of_cut ks s && list_any (bytes_eq isrc) isrcs) cut ∙ ap (λ (b : Bool). is_of_cut order.cut s && b) (sym (tallied isrc)) ∙ h) in
        looks_then old one new listed c.candidates_in.result _ _ _ c.in_ok-works.ensures.looks.says c.candidates_in.ensures.looks.says
        (λ y lists are b holds reached.
        let its = are (subst (ListsWorks (wants_for order.cut (is_tallied tally)) old.now.trees) (sym c.of-works.ensures.listed) (lists_fewer (wants wanted) (wants_for order.cut (is_tallied tally)) old.now.trees listed fewer lists)) (c.of-works.ensures.none o old.now.trees) b holds reached in
        let kind : StandFor (holders_of order.kind o) (is_tallied tally) (works_of_cut o b order) y.items = subst (λ (k : Kind). StandFor (holders_of k o) (is_tallied tally) (works_of_cut o b order) y.items) c.kind.ensures its in
        record { same = λ isrc h. kind.same isrc (tallied isrc ∙ h) });
  };
}
