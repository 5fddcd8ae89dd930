use Rattle.std.proofs.Common.{arith}
use Rattle.http_text.proofs.lemmas.PathLemmas.{named_short}
use Rattle.http_text.proofs.parameters.take_parameter.Goals as goal

pub decode-requires : goal.decode-requires
decode-requires c =
    let p = c.args.params.now in
    let short = named_short c.args.name.now c.in_ok-raw.raw.now p.pattern.now p.text.now p.path.now p.names.now 0 0 (c.in_ok-raw.ensures c.requires.text) in
    omega (arith, short, c.requires.short, c.as_bytes.ensures.len)
