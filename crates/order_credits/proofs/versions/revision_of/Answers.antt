use Rattle.std.proofs.Common.{Ok, Some, None, Option, ap, option_map, sym, subst, ◌∙◌, rules}
use Rattle.sqlite.specs.Held.{state}
use Rattle.society_book.proofs.lemmas.together.StepLemmas.{looks_as, nothing}
use Rattle.society_core.specs.declared.transmission_key.TransmissionKey.{TransmissionKey}
use Rattle.order_credits.proofs.lemmas.OwnedLemmas.{key_reached, revision_none, revision_some}
use Rattle.order_credits.specs.Looked.{IsCutOfSender}
use Rattle.order_credits.specs.Shares.{revision_of}
use Rattle.order_credits.proofs.versions.revision_of.Goals as goal

pub returns-in_default : goal.returns-in_default
returns-in_default g c = record {
  looks = record {
    same_reference = search rules;
    says = nothing (state g.S.Store c.args.tx.now.conn.now) (Ok 0) _
        (λ o b holds reached. revision_none o b c.args.order.now c.args.candidate.now.sender c.args.candidate.now.work c.cut.result.now c.cut.ensures.value (rw c.in_default.is at c.key_of.ensures));
  };
}

pub returns-in-Some-2 : goal.returns-in-Some-2
returns-in-Some-2 g c = record {
  looks = record {
    same_reference = search rules;
    says =
        let order = c.args.order.now in
        let sender = c.args.candidate.now.sender in
        let found = rw c.in-Some.is at c.key_of.ensures in
        looks_as (state g.S.Store c.args.tx.now.conn.now) (state g.S.Store c.version_at.new.tx.conn.now) c.in_ok-version.field-0 (Ok c.in-Some-2.version.revision) _ _ c.in_ok-version.ensures.looks.says
        (λ at o b holds reached. ap revision_of (sym c.in-Some-2.is) ∙ revision_some o b order sender c.args.candidate.now.work c.cut.result.now c.in-Some.key.now c.in_ok-version.field-0 c.cut.ensures.value found
        (at o b holds (key_reached b order sender c.cut.result.now c.in-Some.key.now c.cut.ensures.value found reached)));
  };
}

pub returns-in-None : goal.returns-in-None
returns-in-None g c = record {
  looks = record {
    same_reference = search rules;
    says =
        let order = c.args.order.now in
        let sender = c.args.candidate.now.sender in
        let found = rw c.in-Some.is at c.key_of.ensures in
        looks_as (state g.S.Store c.args.tx.now.conn.now) (state g.S.Store c.version_at.new.tx.conn.now) c.in_ok-version.field-0 (Ok 0) _ _ c.in_ok-version.ensures.looks.says
        (λ at o b holds reached. ap revision_of (sym c.in-None.is) ∙ revision_some o b order sender c.args.candidate.now.work c.cut.result.now c.in-Some.key.now c.in_ok-version.field-0 c.cut.ensures.value found
        (at o b holds (key_reached b order sender c.cut.result.now c.in-Some.key.now c.cut.ensures.value found reached)));
  };
}
