use Rattle.std.proofs.Common.{ap}
use Rattle.society_core.specs.Answers.{answer}
use Rattle.society_core.specs.Book.{Book}
use Rattle.society_core.proofs.lemmas.HeadlineLemmas.{accepted_alike, order_is_free}
use Rattle.society_core.proofs.laws.order_of_arrival_is_free.Goals as goal

pub returns-clause-accepted : goal.returns-clause-accepted
returns-clause-accepted c = accepted_alike

pub returns-clause-same_book : goal.returns-clause-same_book
returns-clause-same_book c = order_is_free

pub returns-clause-same_answers : goal.returns-clause-same_answers
returns-clause-same_answers c = λ office before queries replies after others answers end run other alike query.
    ap (λ (book : Book). answer office book query) (accepted_alike office before queries replies after others answers end run other alike)
