use Rattle.std.proofs.Common.{ℕ, Vec, Global, List, ap, ◌∙◌}
use Rattle.std.specs.FinMap.{FinMap}
use Rattle.society_core.specs.Book.{Book, with_return}
use Rattle.society_core.specs.Keys.{return_cmp}
use Rattle.society_core.specs.PlainMaps.{plain_book}
use Rattle.society_core.proofs.lemmas.Kept.{one_kept}
use Rattle.society_core.proofs.lemmas.KeyOrders.{exact_returns, returns_total}
use Rattle.society_core.proofs.plain_book.PlainBook.insert_return.Goals as goal

pub returns-clause-ok : goal.returns-clause-ok
returns-clause-ok c =
    let old = c.self.inside in
    let bytes = λ (v : Vec ℕ Global). v.items in
    let kept = one_kept returns_total exact_returns bytes old.returns.entries c.insert.new.self.entries c.args.key.now c.in_ok-copy.copy c.in_ok-insert.ensures.updates.0 in
    let put = λ (m : FinMap return_cmp (List ℕ)). let b : Book = record (plain_book old.transmissions.entries old.ends.entries old.returns.entries old.pools.entries) { returns = m } in b in
    ap put kept
    ∙ ap (λ (b : Book). with_return b c.args.key.now c.in_ok-copy.copy.items) c.self.view_is
    ∙ ap (λ (x : List ℕ). with_return c.args.self.now c.args.key.now x) c.in_ok-copy.ensures.items
