use Rattle.std.proofs.Common.{◌∙◌, List, ℕ, Ok, subst, sym, rules}
use Rattle.sqlite.specs.Held.{state}
use Rattle.society_arrivals.specs.Runs.{KnowsRun, is_key_among}
use Rattle.society_book.specs.DerivedRows.{line_at_front}
use Rattle.society_arrivals.proofs.lemmas.RunLines.{knows_each}
use Rattle.society_book.proofs.lemmas.together.StepLemmas.{looks_as}
use Rattle.society_arrivals.proofs.settling.end_at_front.Goals as goal

pub returns : goal.returns
returns g c = record {
  looks = record {
    same_reference = search rules;
    says =
        let run = c.args.run.now in
        looks_as (state g.S.Store c.args.tx.now.conn.now) (state g.S.Store c.learn_all.new.tx.conn.now) tt (Ok c.learn_all.new.end) _ _ c.in_ok-learn_all.ensures.looks.says
        (λ learned o b holds is. (
          is_key_among c.as_slice.result.now,
          learned o b holds (c.new-end.ensures (line_at_front o b c.args.sender.now) is),
          subst (λ (works : List (List ℕ)). KnowsRun (is_key_among works) run) (sym (c.as_slice.ensures.value ∙ c.in_ok-asked.ensures)) (knows_each run),
        ));
  };
}
