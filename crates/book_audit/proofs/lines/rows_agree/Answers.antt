use Rattle.std.proofs.Common.{◌∙◌, Err, List, Ok, Vec, filter, map, sym}
use Rattle.std.specs.declared.alloc.Global.{Global}
use Rattle.std.proofs.lemmas.Bool.{false≢true}
use Rattle.std.proofs.lemmas.List.Sorted.{IsPermutation-sym, IsPermutation-trans}
use Rattle.sqlite.specs.Held.{state}
use Rattle.sqlite_value.specs.Order.{Row}
use Rattle.society_rows.specs.Questions.{RowsAnswer}
use Rattle.society_rows.specs.Stored.{rows_in}
use Rattle.book_audit.specs.Examining.{IsNot}
use Rattle.society_book.proofs.lemmas.together.JudgedLemmas.{examines_as}
use Rattle.society_book.specs.Steps.{Never}
use Rattle.society_rows.specs.declared.fault.RowFault.TheVariants.{Damaged}
use Rattle.book_audit.specs.Auditing.{HasRowsOf, of_sender}
use Rattle.book_audit.proofs.lines.rows_agree.Goals as goal

pub returns-then-branch-clause-examined : goal.returns-then-branch-clause-examined
returns-then-branch-clause-examined g c = λ table sender width lists exact.
    let wanted : List Row = map g.R.Columns.values c.args.wanted.now.items in
    let rows = c.in_ok-rows.rows in
    let old = state g.S.Store c.args.tx.now.conn.now in
    let db = old.now.trees in
    examines_as {X = Vec Row Global} {Y = Unit {0}} Never (IsNot (HasRowsOf table sender wanted)) old (state g.S.Store c.ask.new.tx.conn.now) rows (Ok tt) (λ d found. RowsAnswer c.args.question d found.items) (λ d _. HasRowsOf table sender wanted d) c.in_ok-rows.ensures.examined.says
    (λ answers. IsPermutation-trans (filter (of_sender sender) (rows_in table db)) rows.items wanted (lists db rows.items answers).rows (c.in_ok-are_alike.ensures.alike c.if-branch.true))
    (λ answers. tt)

pub returns-clause-examined : goal.returns-clause-examined
returns-clause-examined g c = λ table sender width lists exact.
    let wanted : List Row = map g.R.Columns.values c.args.wanted.now.items in
    let rows = c.in_ok-rows.rows in
    let old = state g.S.Store c.args.tx.now.conn.now in
    let db = old.now.trees in
    examines_as {X = Vec Row Global} {Y = Unit {0}} Never (IsNot (HasRowsOf table sender wanted)) old (state g.S.Store c.ask.new.tx.conn.now) rows (Err Damaged) (λ d found. RowsAnswer c.args.question d found.items) (λ d _. HasRowsOf table sender wanted d) c.in_ok-rows.ensures.examined.says
    (λ answers. tt)
    (λ answers has.
    let listed = filter (of_sender sender) (rows_in table db) in
    false≢true (sym c.if-branch.false ∙ c.in_ok-are_alike.ensures.exact exact (IsPermutation-trans rows.items listed wanted (IsPermutation-sym listed rows.items (lists db rows.items answers).rows) has)))
