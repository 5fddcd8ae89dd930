use Rattle.std.proofs.Common.{◌≡◌, length, sym, ◌∙◌, arith, rules}
use Rattle.std.proofs.lemmas.Bool.{false≢true}
use Rattle.sqlite_wal.specs.Format.{IsSigned}
use Rattle.sqlite_wal.specs.Recovery.{header}
use Rattle.sqlite_wal.proofs.PartLemmas.{held_is_part}
use Rattle.log_reading.proofs.header.read_header.Goals as goal

pub returns-then-is_signed-clause-ok : goal.returns-then-is_signed-clause-ok
returns-then-is_signed-clause-ok g c known =
    let log = g.L.ReadAt.bytes c.args.log.now in
    let len : length c.read_at.new.buffer ≡ 32 = search rules in
    let read : header log ≡ c.read_at.new.buffer = held_is_part log _ _ _ (c.in-Ok.ensures.ok known) len in (
      record {
        long = omega (arith, c.requires.len known);
        signed = rw read (c.is_signed.ensures.0 c.if-is_signed.true);
      },
      sym read,
    )

pub returns-else-is_signed-clause-ok : goal.returns-else-is_signed-clause-ok
returns-else-is_signed-clause-ok g c known has =
    let log = g.L.ReadAt.bytes c.args.log.now in
    let len : length c.read_at.new.buffer ≡ 32 = search rules in
    let read : header log ≡ c.read_at.new.buffer = held_is_part log _ _ _ (c.in-Ok.ensures.ok known) len in
    let signed : IsSigned c.read_at.new.buffer = rw (← read) has.signed in
    false≢true (sym c.if-is_signed.false ∙ c.is_signed.ensures.1 signed)
