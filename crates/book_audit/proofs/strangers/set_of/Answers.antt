use Rattle.std.proofs.Common.{rules}
use Rattle.std.proofs.lemmas.Iterator.{YieldsList-from_slice}
use Rattle.std.proofs.lemmas.Iterator.Adapters.{fact_from_collect}
use Rattle.std.proofs.lemmas.Iterator.Consumers.{YieldsList-from_copied}
use Rattle.std.specs.BTreeSet.{IsFromIterResult}
use Rattle.society_core.specs.Keys.{bytes_cmp}
use Rattle.book_audit.proofs.strangers.set_of.Goals as goal

pub returns : goal.returns
returns c =
    fact_from_collect (IsFromIterResult bytes_cmp) c.collect.result c.collect.ensures.ran (YieldsList-from_copied (YieldsList-from_slice c.args.senders.now (search rules)))
