use Rattle.std.proofs.Common.{◌∙◌}
use Rattle.std.proofs.lemmas.Iterator.Adapters.{YieldsList-from_vec, fact_from_collect}
use Rattle.std.specs.BTreeSet.{IsFromIterResult}
use Rattle.society_core.specs.Keys.{bytes_cmp}
use Rattle.society_arrivals.proofs.run.distinct_isrcs.Goals as goal

pub returns : goal.returns
returns c =
    fact_from_collect (IsFromIterResult bytes_cmp) c.collect.result c.collect.ensures.ran (YieldsList-from_vec c.args.list.items c.into_iter.ensures.rest (c.into_iter.ensures.len ∙ c.args.list.ok.0))
