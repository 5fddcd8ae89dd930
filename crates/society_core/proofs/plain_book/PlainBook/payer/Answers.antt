use Rattle.std.proofs.Common.{ap, sym, ◌∙◌}
use Rattle.std.specs.Cmp.{nat_cmp_total}
use Rattle.std.specs.FinMap as finite
use Rattle.society_core.specs.Book.{Book}
use Rattle.society_core.proofs.lemmas.Found.{first_in}
use Rattle.society_core.proofs.lemmas.KeyOrders.{exact_numbers}
use Rattle.society_core.proofs.lemmas.KeysOfMaps.{entries_in_order}
use Rattle.society_core.proofs.plain_book.PlainBook.payer.Goals as goal

pub returns : goal.returns
returns c =
    let entries = c.self.inside.pools.entries in
    c.payer_in.ensures.pool
    ∙ ap (first_in c.args.key.now) (sym (entries_in_order nat_cmp_total exact_numbers entries c.payer_in.ensures.ordered))
    ∙ ap (λ (b : Book). first_in c.args.key.now (finite.entries b.pools)) c.self.view_is
