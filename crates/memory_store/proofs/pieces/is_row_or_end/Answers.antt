use Rattle.std.proofs.Common.{arith, ◌≡◌, ◌<◌, nat_lt, true}
use Rattle.std.proofs.lemmas.Bool.Decides.{nat_tests}
use Rattle.memory_store.proofs.lemmas.PlaceLemmas.{is_in}
use Rattle.memory_store.proofs.pieces.is_row_or_end.Goals as goal

pub returns-then-place-pieces-clause-inside : goal.returns-then-place-pieces-clause-inside
returns-then-place-pieces-clause-inside c = λ below within.
    let v = c.index-pieces-place.result in
    let is : nat_lt c.args.place.at c.len.result ≡ true = below in
    let less : c.args.place.at < c.len.result = grind (arith, nat_tests, is) in
    is_in c.args.pieces.now c.args.place.piece c.args.place.at v (within, c.index-pieces-place.is) (omega (arith, less, c.len.ensures))
