use Rattle.std.proofs.Common.{◌∷◌, []}
use Rattle.std.proofs.Math.Logic.{∥∥₁_map}
use Rattle.std.specs.Bool.{⊤}
use Rattle.society_core.specs.Book.{with_return}
use Rattle.society_core.proofs.lemmas.Stores.{return_entry}
use Rattle.society_rows.specs.Layout as layout
use Rattle.society_book.specs.BookRows.{book_of, return_row}
use Rattle.society_book.specs.Shown.{Comes}
use Rattle.society_tables.proofs.lemmas.AddLemmas.{addition, any_told, one_truth, rests_after}
use Rattle.society_book.proofs.lemmas.rows_alike.KeyRows.{refilled_by}
use Rattle.society_tables.proofs.lemmas.ReturnAdds.{return_added}
use Rattle.society_tables.proofs.tables.TablesStore.add_return.Goals as goal

pub invariant_of-self-clause-rests : goal.invariant_of-self-clause-rests
invariant_of-self-clause-rests g c =
    ∥∥₁_map c.args.self.now.rests
    (rests_after _ _ _ (Comes layout.returns (return_row c.args.key.now c.args.body.now ∷ [])) (λ _ _. ⊤) (with_return (book_of (g.S.Store.view c.args.self.now.conn.store).trees) c.args.key.now c.args.body.now) c.write_return-answer.result
    (record {
      changed = rw (c.as_bytes.ensures.bytes, c.value.ensures.value) at c.write_return-answer.ensures.changed;
      says = λ clean has. any_told c.write_return-answer.result;
      settled = c.write_return-answer.ensures.settled;
      was_open = c.write_return-answer.ensures.was_open;
      neither = c.write_return-answer.ensures.neither;
      survives = rw (c.as_bytes.ensures.bytes, c.value.ensures.value) at c.write_return-answer.ensures.survives;
    })
    (λ clean holds db comes. return_added _ _ c.args.key.now c.args.body.now _ db holds (c.requires.free clean)
    (return_entry c.args.key.now _ c.args.body.now c.as_bytes.ensures.bytes c.as_bytes.ensures.back c.value.ensures.limits.0 c.value.ensures.limits.1 c.requires.right)
    (refilled_by c.args.key.now.reporter _ c.as_bytes.ensures.bytes c.as_bytes.ensures.back) comes.rows comes.others))

pub returns : goal.returns
returns g c =
    addition _ _ _ (Comes layout.returns (return_row c.args.key.now c.args.body.now ∷ [])) (λ _ _. ⊤) (with_return (book_of (g.S.Store.view c.args.self.now.conn.store).trees) c.args.key.now c.args.body.now) c.write_return-answer.result
    (record {
      changed = rw (c.as_bytes.ensures.bytes, c.value.ensures.value) at c.write_return-answer.ensures.changed;
      says = λ clean has. any_told c.write_return-answer.result;
      settled = c.write_return-answer.ensures.settled;
      was_open = c.write_return-answer.ensures.was_open;
      neither = c.write_return-answer.ensures.neither;
      survives = rw (c.as_bytes.ensures.bytes, c.value.ensures.value) at c.write_return-answer.ensures.survives;
    })
    (λ clean holds db comes. return_added _ _ c.args.key.now c.args.body.now _ db holds (c.requires.free clean)
    (return_entry c.args.key.now _ c.args.body.now c.as_bytes.ensures.bytes c.as_bytes.ensures.back c.value.ensures.limits.0 c.value.ensures.limits.1 c.requires.right)
    (refilled_by c.args.key.now.reporter _ c.as_bytes.ensures.bytes c.as_bytes.ensures.back) comes.rows comes.others)
    (λ _. ⊤) (λ _. one_truth) (λ clean holds x told. tt) _ _ c.store_answer.result c.args.self.now.rests (c.in_ok-counts_on.ensures.room) c.store_answer.ensures
