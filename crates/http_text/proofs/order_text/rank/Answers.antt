use Rattle.std.proofs.Common.{rules}
use Rattle.http_text.proofs.order_text.rank.Goals as goal

pub returns : goal.returns
returns c = search rules
