use Rattle.std.proofs.Common.{◌∙◌, Ok, Some, None, ap, sym, rules}
use Rattle.sqlite.specs.Held.{state}
use Rattle.society_book.proofs.lemmas.together.StepLemmas.{looks_as}
use Rattle.society_core.specs.declared.refusal.Refusal.{Refusal}
use Rattle.society_core.specs.declared.refusal.Refusal.TheVariants.{Cut}
use Rattle.order_credits.proofs.lemmas.RefusalLemmas.{in_line, not_in_line}
use Rattle.order_credits.proofs.refusing.number_refusal.Goals as goal

pub returns-then-is_in_line : goal.returns-then-is_in_line
returns-then-is_in_line g c = record {
  looks = record {
    same_reference = search rules;
    says =
        let key = c.args.key.now in
        let old = state g.S.Store c.args.tx.now.conn.now in
        looks_as old (state g.S.Store c.reach_of.new.tx.conn.now) c.in_ok-reach.reach (Ok None) _ _ c.in_ok-reach.ensures.examined.says.does
        (λ reach o b holds. in_line b key (sym (c.is_in_line.ensures old.now.trees key.sender reach o b holds) ∙ c.if-is_in_line.true));
  };
}

pub returns : goal.returns
returns g c = record {
  looks = record {
    same_reference = search rules;
    says =
        let key = c.args.key.now in
        let old = state g.S.Store c.args.tx.now.conn.now in
        looks_as old (state g.S.Store c.reach_of.new.tx.conn.now) c.in_ok-reach.reach (Ok (Some _)) _ _ c.in_ok-reach.ensures.examined.says.does
        (λ reach o b holds. ap (λ n. Some (Cut key.sender n)) (c.front.ensures ∙ reach.1 o b holds) ∙ not_in_line b key (sym (c.is_in_line.ensures old.now.trees key.sender reach o b holds) ∙ c.if-is_in_line.false));
  };
}
