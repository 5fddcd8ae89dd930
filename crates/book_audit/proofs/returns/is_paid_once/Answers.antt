use Rattle.std.proofs.Common.{◌∙◌, ◌==◌, ℕ, Ok, ap, length, rules}
use Rattle.std.proofs.lemmas.List.Sorted.{length_permutation}
use Rattle.sqlite.specs.Held.{state}
use Rattle.society_book.proofs.lemmas.together.JudgedLemmas.{examines_as}
use Rattle.society_book.specs.Steps.{Never}
use Rattle.book_audit.proofs.returns.is_paid_once.Goals as goal

pub returns : goal.returns
returns g c = record {
  examined = record {
    same_reference = search rules;
    says =
        let old = state g.S.Store c.args.tx.now.conn.now in
        examines_as Never Never old (state g.S.Store c.ask.new.tx.conn.now) c.in_ok-rows.rows (Ok _) _ _ c.in_ok-rows.ensures.examined.says
        (λ lists. let listed = rw (c.as_bytes.ensures.bytes, c.value.ensures.value) at lists in ap (λ (n : ℕ). n == 1) (ap length c.as_slice.ensures.value ∙ length_permutation _ _ listed.rows))
        (λ lists. tt);
  };
}
