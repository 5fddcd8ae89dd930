use Rattle.std.proofs.Common.{◌≡◌}
use Rattle.std.proofs.Math.Logic.{∥∥₁_map}
use Rattle.society_core.specs.Answers.{place_in_book}
use Rattle.society_core.specs.Book.{with_transmission}
use Rattle.society_book.specs.BookRows.{book_of}
use Rattle.society_arrivals.specs.Arrivals.{Arrives, ArrivesTo}
use Rattle.society_tables.proofs.lemmas.AddLemmas.{addition, rests_after}
use Rattle.society_tables.proofs.lemmas.StoreQuestions.{one_place}
use Rattle.society_tables.proofs.tables.TablesStore.add_transmission.Goals as goal

pub invariant_of-self-clause-rests : goal.invariant_of-self-clause-rests
invariant_of-self-clause-rests g c =
    let o = c.args.self.now.office in
    let s = c.args.reader.sender in
    let body = c.args.reader.body in
    let book = book_of (g.S.Store.view c.args.self.now.conn.store).trees in
    ∥∥₁_map c.args.self.now.rests
    (rests_after o _ _ (Arrives o s c.args.number body) (ArrivesTo o s c.args.number body) (with_transmission book s c.args.number body) c.arrive-answer.result
    (rw (c.sender.ensures, c.body.ensures) at c.arrive-answer.ensures.added)
    (λ clean holds db arrives. arrives book holds (c.requires.free clean) (c.requires.within clean)))

pub returns : goal.returns
returns g c =
    let o = c.args.self.now.office in
    let s = c.args.reader.sender in
    let body = c.args.reader.body in
    let book = book_of (g.S.Store.view c.args.self.now.conn.store).trees in
    addition o _ _ (Arrives o s c.args.number body) (ArrivesTo o s c.args.number body) (with_transmission book s c.args.number body) c.arrive-answer.result
    (rw (c.sender.ensures, c.body.ensures) at c.arrive-answer.ensures.added)
    (λ clean holds db arrives. arrives book holds (c.requires.free clean) (c.requires.within clean))
    (λ place. place ≡ place_in_book (with_transmission book s c.args.number body) s c.args.number) (λ place. one_place place _) (λ clean holds place says. says book holds (c.requires.free clean) (c.requires.within clean))
    _ _ c.store_answer.result c.args.self.now.rests (c.in_ok-counts_on.ensures.room) c.store_answer.ensures
