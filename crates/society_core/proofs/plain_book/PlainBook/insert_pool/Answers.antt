use Rattle.std.proofs.Common.{ℕ, List, ap, sym, ◌∙◌}
use Rattle.std.specs.Cmp.{nat_cmp_total}
use Rattle.std.specs.FinMap as finite
use Rattle.std.specs.FinMap.{FinMap}
use Rattle.std.specs.Ordering.{nat_cmp}
use Rattle.society_core.specs.Book.{Book, with_pool}
use Rattle.society_core.specs.Orders.{Order}
use Rattle.society_core.specs.PlainMaps.{plain_book}
use Rattle.society_core.proofs.lemmas.Kept.{one_kept, pairs_same}
use Rattle.society_core.proofs.lemmas.KeyOrders.{exact_numbers}
use Rattle.society_core.proofs.plain_book.PlainBook.insert_pool.Goals as goal

pub returns-clause-ok : goal.returns-clause-ok
returns-clause-ok c =
    let old = c.self.inside in
    let new = c.insert.new.self.entries in
    let same = λ (o : Order). o in
    let map_of = λ (es : List (ℕ × Order)). finite.from_entries {R = nat_cmp} es in
    let kept = one_kept nat_cmp_total exact_numbers same old.pools.entries new c.args.pool c.in_ok-copy.copy c.in_ok-insert.ensures.updates.0 in
    let put = λ (m : FinMap nat_cmp Order). let b : Book = record (plain_book old.transmissions.entries old.ends.entries old.returns.entries old.pools.entries) { pools = m } in b in
    ap put (ap map_of (sym (pairs_same new)) ∙ kept ∙ ap (λ (es : List (ℕ × Order)). finite.insert (map_of es) c.args.pool c.in_ok-copy.copy) (pairs_same old.pools.entries))
    ∙ ap (λ (b : Book). with_pool b c.args.pool c.in_ok-copy.copy) c.self.view_is
    ∙ ap (λ (x : Order). with_pool c.args.self.now c.args.pool x) c.in_ok-copy.ensures.copy
