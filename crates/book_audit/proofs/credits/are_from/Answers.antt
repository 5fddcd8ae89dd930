use Rattle.std.proofs.Common.{rules}
use Rattle.book_audit.proofs.credits.are_from.Goals as goal

pub returns-clause-alike : goal.returns-clause-alike
returns-clause-alike c =
    search rules
