use Rattle.std.proofs.Common.{◌≡◌, Err, IfErr, IfOk, List, Ok, Result, ℕ, subst, sym, rules}
use Rattle.sqlite.specs.Held.{state}
use Rattle.sqlite_trees.specs.Tree.{Trees}
use Rattle.share_rules.specs.declared.office.Office.{Office}
use Rattle.society_core.specs.Book.{Book, front}
use Rattle.society_rows.specs.declared.fault.RowFault.{RowFault}
use Rattle.society_rows.specs.declared.fault.RowFault.TheVariants.{Damaged}
use Rattle.society_book.specs.Errors.{Blames}
use Rattle.society_book.proofs.lemmas.shown.FrontRows.{small_front}
use Rattle.society_book.proofs.lemmas.together.JudgedLemmas.{examines_as}
use Rattle.society_book.specs.Steps.{Never}
use Rattle.book_audit.specs.Standing.{HoldsLines, HoldsNoLines}
use Rattle.book_audit.proofs.lemmas.orders.Lines.{front_there}
use Rattle.book_audit.proofs.reached.front_in.Goals as goal

module _ (s : List ℕ) (db : Trees) where
  abbrev Shows : Result ℕ RowFault → Type 0
  Shows r = (o : Office) (b : Book) → HoldsLines o b db → r ≡ Ok (front b s)

  ok_is : (m n : ℕ) → ◌≡◌ {A = Result ℕ RowFault} (Ok m) (Ok n) → m ≡ n
  ok_is m n is = cc

  shown : (r : Result ℕ RowFault) → Shows r → IfOk r (λ n. (o : Office) (b : Book) → HoldsLines o b db → n ≡ front b s)
  shown (Ok n) is = λ o b holds. ok_is n (front b s) (is o b holds)
  shown (Err e) is = tt

  not_ok : (e : RowFault) (n : ℕ) → ◌≡◌ {A = Result ℕ RowFault} (Err e) (Ok n) → ⊥
  not_ok e n is = cc

  blamed : (r : Result ℕ RowFault) → Shows r → IfErr r (λ e. e ≡ Damaged) → IfErr r (Blames (HoldsNoLines db))
  blamed (Ok n) is err = tt
  blamed (Err e) is err = subst (Blames (HoldsNoLines db)) (sym err) (λ o b holds. not_ok e (front b s) (is o b holds))

pub returns : goal.returns
returns g c = record {
  examined = record {
    same_reference = search rules;
    says =
        let s = c.args.sender.now in
        let rows = c.in_ok-rows.rows.items in
        let old = state g.S.Store c.args.tx.now.conn.now in
        let r = c.shown_front.result in
        let exact = rw c.as_slice.ensures.value at c.shown_front.ensures.exact in
        examines_as Never HoldsNoLines old (state g.S.Store c.ask.new.tx.conn.now) c.in_ok-rows.rows r _ _ (rw c.as_bytes.ensures.bytes at c.in_ok-rows.ensures.examined.says)
        (λ lists. shown s old.now.trees r (λ o b holds. exact (front b s) (small_front b s holds.sound) (front_there o b old.now.trees holds s rows lists)))
        (λ lists. blamed s old.now.trees r (λ o b holds. exact (front b s) (small_front b s holds.sound) (front_there o b old.now.trees holds s rows lists)) c.shown_front.ensures.err);
  };
}
