use Rattle.std.proofs.Common.{subst, sym, rules}
use Rattle.sqlite.specs.Held.{state}
use Rattle.society_book.specs.Kept.{HoldsOwnBook}
use Rattle.society_rows.specs.declared.older.OlderLayout.TheVariants as older
use Rattle.society_tables.proofs.lemmas.AddLemmas.{holds_own}
use Rattle.book_audit.specs.Examining.{HoldsNot}
use Rattle.book_derivation.specs.Deriving.{LacksBook}
use Rattle.book_derivation.proofs.lemmas.Derivings.{derives_also, derives_examined}
use Rattle.society_opening.specs.TakingOver.{LacksRaised}
use Rattle.society_opening.proofs.lemmas.taking.Completed.{keeps_first, keeps_second}
use Rattle.society_opening.proofs.taking_over.complete.Goals as goal

pub returns-in-First : goal.returns-in-First
returns-in-First g c = record {
  derives = record {
    same_reference = search rules;
    says =
        let old = state g.S.Store c.args.tx.now.conn.now in
        let new = state g.S.Store c.derive.new.tx.conn.now in
        let o = c.args.office.now in
        rw c.in-First.is
        (derives_also (LacksBook o) (LacksRaised o older.First) old new c.derive.result _ _ c.derive.ensures.derives.says
        (λ x keeps says. record { kept = keeps_first old.now.trees new.now.trees keeps; holds = λ registered raised. says registered raised.0 raised.1 }) (λ wrong. wrong));
  };
}

pub returns-in-Second : goal.returns-in-Second
returns-in-Second g c = record {
  derives = record {
    same_reference = search rules;
    says =
        let old = state g.S.Store c.args.tx.now.conn.now in
        let new = state g.S.Store c.examine_whole.new.tx.conn.now in
        let o = c.args.office.now in
        rw c.in-Second.is
        (derives_also (HoldsNot o) (LacksRaised o older.Second) old new c.examine_whole.result _ _ (derives_examined (HoldsNot o) old new c.examine_whole.result _ c.examine_whole.ensures.examined.says)
        (λ x keeps says. record { kept = keeps_second old.now.trees new.now.trees says.0; holds = λ registered raised. subst (HoldsOwnBook o) (sym says.0) (says.1 registered) }) (λ wrong b holds. wrong (holds_own o b old.now.trees holds)));
  };
}
