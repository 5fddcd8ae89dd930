use Rattle.std.proofs.Common.{◌≡◌}
use Rattle.std.proofs.Math.Logic.{∥∥₁_map}
use Rattle.sender_segments.specs.Ways.{end_stated}
use Rattle.society_core.specs.Book.{front, with_end}
use Rattle.society_core.specs.Ends.{place_stated}
use Rattle.society_book.specs.BookRows.{book_of}
use Rattle.society_arrivals.specs.Arrivals.{StatesEnd, StatesEndTo}
use Rattle.society_tables.proofs.lemmas.AddLemmas.{addition, rests_after}
use Rattle.society_tables.proofs.lemmas.StoreQuestions.{one_number}
use Rattle.society_tables.proofs.tables.TablesStore.add_end.Goals as goal

pub invariant_of-self-clause-rests : goal.invariant_of-self-clause-rests
invariant_of-self-clause-rests g c =
    let o = c.args.self.now.office in
    let s = c.args.sender.now in
    let stated = c.args.end.now in
    let book = book_of (g.S.Store.view c.args.self.now.conn.store).trees in
    ∥∥₁_map c.args.self.now.rests
    (rests_after o _ _ (StatesEnd o s stated) (StatesEndTo o s stated) (with_end book s (place_stated stated) (end_stated stated)) c.state_end-answer.result c.state_end-answer.ensures.added
    (λ clean holds db states. states book holds (c.requires.free clean) (c.requires.above clean)))

pub returns : goal.returns
returns g c =
    let o = c.args.self.now.office in
    let s = c.args.sender.now in
    let stated = c.args.end.now in
    let book = book_of (g.S.Store.view c.args.self.now.conn.store).trees in
    addition o _ _ (StatesEnd o s stated) (StatesEndTo o s stated) (with_end book s (place_stated stated) (end_stated stated)) c.state_end-answer.result c.state_end-answer.ensures.added
    (λ clean holds db states. states book holds (c.requires.free clean) (c.requires.above clean))
    (λ n. n ≡ front (with_end book s (place_stated stated) (end_stated stated)) s) (λ n. one_number n _) (λ clean holds n says. says book holds (c.requires.free clean) (c.requires.above clean))
    _ _ c.store_answer.result c.args.self.now.rests (c.in_ok-counts_on.ensures.room) c.store_answer.ensures
