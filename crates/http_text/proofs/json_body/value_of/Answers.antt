use Rattle.std.proofs.Common.{sym, true≢false}
use Rattle.http_text.proofs.lemmas.JsonBodyLemmas.{value_missing, value_read}
use Rattle.http_text.proofs.json_body.value_of.Goals as goal

pub returns-in-Ok : goal.returns-in-Ok
returns-in-Ok c = value_read c.args.body.now _ c.in-Ok.ensures.ok.0 c.in-Ok.ensures.ok.1

pub returns-else-is_memory : goal.returns-else-is_memory
returns-else-is_memory c =
    value_missing c.args.body.now (λ text. c.in-Err.ensures.err (λ memory. let told = c.is_memory.ensures.1 memory in true≢false (sym (rw c.if-is_memory.false at told))) text)
