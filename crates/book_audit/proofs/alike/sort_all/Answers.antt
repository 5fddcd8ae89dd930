use Rattle.std.proofs.Common.{Err, Ok, OnOk, Result, rules}
use Rattle.book_audit.proofs.lemmas.lines.AlikeRows.{sorted_by_values}
use Rattle.book_audit.proofs.alike.sort_all.Goals as goal

on_ok : {X E P Q : Type 0} (r : Result X E) → (P → Q) → OnOk r P → OnOk r Q
on_ok (Ok x) f h = f h
on_ok (Err e) f h = tt

pub returns-clause-sorted : goal.returns-clause-sorted
returns-clause-sorted g c =
    on_ok c.sort_by.result (λ up. sorted_by_values g.R.Columns.values c.sort_by.new.self.items up (λ a r f k. search rules)) c.sort_by.ensures.sorted
