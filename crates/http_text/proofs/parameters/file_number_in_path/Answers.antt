use Rattle.std.proofs.Common.{rules}
use Rattle.http_text.proofs.parameters.file_number_in_path.Goals as goal

pub returns : goal.returns
returns c = search rules
