use Rattle.std.proofs.Common.{◌≡◌, ◌∙◌, ◌∷◌, [], ℤ, FitsSigned, IfOk, IsPermutation, Result, of_z, pos, subst, to_z, w64, rules}
use Rattle.std.proofs.lemmas.Int.{to_z-of_z}
use Rattle.sqlite.specs.Held.{state}
use Rattle.sqlite_value.specs.Order.{Row}
use Rattle.sqlite_value.specs.declared.value.Value.TheVariants.{Int, Text}
use Rattle.society_rows.specs.Layout as layout
use Rattle.society_rows.specs.Stored.{rows_in}
use Rattle.society_rows.specs.declared.fault.RowFault.{RowFault}
use Rattle.society_book.specs.Steps.{Never}
use Rattle.book_derivation.proofs.lemmas.Derivings.{derives_also}
use Rattle.book_derivation.proofs.lemmas.Writes.{balances_derived, derives_adds}
use Rattle.book_derivation.proofs.balances.write_balance.Goals as goal

pub returns : goal.returns
returns g c = record {
  derives = record {
    same_reference = search rules;
    says =
        let old = state g.S.Store c.args.tx.now.conn.now in
        let new = state g.S.Store c.add.new.tx.conn.now in
        let row : ℤ → Row = λ units. Text c.args.account.now ∷ Int units ∷ [] in
        let column = c.in_ok-units.units in
        let worked_out = c.in_ok-units.ensures.value in
        let fits : FitsSigned w64 column = subst (λ (r : Result ℤ RowFault). IfOk r (λ n. FitsSigned w64 n)) worked_out c.column_of.ensures.range in
        let whole : to_z w64 (of_z w64 column) ≡ pos c.args.units = to_z-of_z w64 column fits ∙ subst (λ (r : Result ℤ RowFault). IfOk r (λ n. n ≡ pos c.args.units)) worked_out c.column_of.ensures.value in
        derives_also Never Never old new c.wrote.result _ _
        (derives_adds layout.balances (row (to_z w64 (of_z w64 column)) ∷ []) old new c.add.result c.wrote.result balances_derived c.add.ensures.written.says c.add.ensures.blamed c.wrote.ensures.done c.wrote.ensures.err)
        (λ done own adds. record {
          rows = subst (λ (units : ℤ). IsPermutation (row units ∷ rows_in layout.balances old.now.trees) (rows_in layout.balances new.now.trees)) whole adds.rows;
          numbered = adds.numbered;
          others = adds.others;
        })
        (λ never. never);
  };
}
