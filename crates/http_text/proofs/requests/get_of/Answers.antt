use Rattle.std.proofs.Common.{rules}
use Rattle.http_text.proofs.requests.get_of.Goals as goal

pub returns-in-Transmission : goal.returns-in-Transmission
returns-in-Transmission c = search rules
