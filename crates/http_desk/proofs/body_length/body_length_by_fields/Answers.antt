use Rattle.std.proofs.Common.{rules}
use Rattle.http_desk.proofs.body_length.body_length_by_fields.Goals as goal

pub returns-in-Several : goal.returns-in-Several
returns-in-Several c = search rules
