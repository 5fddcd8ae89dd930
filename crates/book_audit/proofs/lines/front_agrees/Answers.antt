use Rattle.std.proofs.Common.{◌∙◌, [], ◌∷◌, ◌++◌, ap, map, refl}
use Rattle.sqlite.specs.Held.{state}
use Rattle.sqlite_keyed.proofs.ListLemmas.{IsPermutation-same}
use Rattle.society_rows.specs.Layout as layout
use Rattle.society_rows.specs.Rows.{front_values}
use Rattle.book_audit.proofs.lemmas.lines.WantedRows.{exact_rows, in_some_order}
use Rattle.book_audit.proofs.lines.front_agrees.Goals as goal

pub returns-clause-examined : goal.returns-clause-examined
returns-clause-examined g c =
    let s = c.args.front.now.sender.now in
    let wanted = c.push.new.self.items in
    in_some_order layout.fronts s (map front_values wanted) (front_values c.args.front.now ∷ []) (state g.S.Store c.args.tx.now.conn.now) (state g.S.Store c.rows_agree.new.tx.conn.now) c.rows_agree.result
    (IsPermutation-same (map front_values wanted) (front_values c.args.front.now ∷ []) (ap (map front_values) (c.in_ok-push.ensures.items ∙ ap (λ l. l ++ c.args.front.now ∷ []) c.new-wanted.ensures.items)))
    (c.rows_agree.ensures.examined layout.fronts s 1 (λ db rows lists. lists) (exact_rows front_values (λ row. (refl, (refl, (refl, tt)))) wanted))
