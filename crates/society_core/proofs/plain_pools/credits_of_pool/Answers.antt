use Rattle.std.proofs.Common.{sym}
use Rattle.society_core.proofs.lemmas.CreditLemmas.{order_has_returns, order_reaches_cut}
use Rattle.society_core.proofs.plain_pools.credits_of_pool.Goals as goal

pub credits_by-requires-clause-there : goal.credits_by-requires-clause-there
credits_by-requires-clause-there c = order_has_returns c.args.book.now c.args.pool _ c.requires.sound (sym c.in-Some.ensures)

pub credits_by-requires-clause-reached : goal.credits_by-requires-clause-reached
credits_by-requires-clause-reached c = order_reaches_cut c.args.book.now c.args.pool _ c.requires.sound (sym c.in-Some.ensures)
