use Rattle.std.proofs.Math.Logic.{∥∥₁_map}
use Rattle.std.specs.Bool.{⊤}
use Rattle.society_core.specs.Book.{with_pool}
use Rattle.society_book.specs.BookRows.{book_of}
use Rattle.society_closings.specs.Closings.{ClosesPool}
use Rattle.society_tables.proofs.lemmas.AddLemmas.{addition, one_truth, rests_after}
use Rattle.society_tables.proofs.tables.TablesStore.add_pool.Goals as goal

pub invariant_of-self-clause-rests : goal.invariant_of-self-clause-rests
invariant_of-self-clause-rests g c =
    let book = book_of (g.S.Store.view c.args.self.now.conn.store).trees in
    ∥∥₁_map c.args.self.now.rests
    (rests_after _ _ _ (ClosesPool c.args.self.now.office c.args.pool c.args.order.now) (λ _ _. ⊤) (with_pool book c.args.pool c.args.order.now) c.close-answer.result
    c.close-answer.ensures.added
    (λ clean holds db closes. closes book holds (c.requires.free clean) (c.requires.right clean)))

pub returns : goal.returns
returns g c =
    let book = book_of (g.S.Store.view c.args.self.now.conn.store).trees in
    addition _ _ _ (ClosesPool c.args.self.now.office c.args.pool c.args.order.now) (λ _ _. ⊤) (with_pool book c.args.pool c.args.order.now) c.close-answer.result
    c.close-answer.ensures.added
    (λ clean holds db closes. closes book holds (c.requires.free clean) (c.requires.right clean))
    (λ _. ⊤) (λ _. one_truth) (λ clean holds x told. tt) _ _ c.store_answer.result c.args.self.now.rests (c.in_ok-counts_on.ensures.room) c.store_answer.ensures
