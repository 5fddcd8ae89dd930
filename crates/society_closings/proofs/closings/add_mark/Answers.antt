use Rattle.std.proofs.Common.{◌≡◌, refl, rules}
use Rattle.sqlite.specs.Held.{state}
use Rattle.society_book.proofs.lemmas.together.StepLemmas.{does_also, does_of, nothing}
use Rattle.society_closings.proofs.closings.add_mark.Goals as goal

pub returns-in-Performing : goal.returns-in-Performing
returns-in-Performing g c = record {
  does = record {
    same_reference = search rules;
    says =
        let here = state g.S.Store c.args.tx.now.conn.now in
        rw c.in-Performing.is (does_also here here _ _ _ (nothing here _ (λ db _. db ≡ db) refl) (λ x both. both.0));
  };
}

pub returns-in-Mechanical : goal.returns-in-Mechanical
returns-in-Mechanical g c = record {
  does = record {
    same_reference = search rules;
    says =
        let old = state g.S.Store c.args.tx.now.conn.now in
        let new = state g.S.Store c.add.new.tx.conn.now in
        rw c.in-Mechanical.is (does_of old new c.add.result _ c.add.ensures.written.says (λ before after adds. adds.layout));
  };
}
