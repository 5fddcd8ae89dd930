use Rattle.std.proofs.Common.{◌≡◌, ◌+◌, ℕ, length, sym, ◌∙◌, ap, rules}
use Rattle.sqlite_wal.specs.Format.{part}
use Rattle.sqlite_wal.specs.Recovery.{frame}
use Rattle.sqlite_wal.proofs.PartLemmas.{held_is_part}
use Rattle.log_reading.proofs.frames.read_frame.Goals as goal

pub returns-clause-ok : goal.returns-clause-ok
returns-clause-ok g c known =
    let log = g.L.ReadAt.bytes c.args.log.now in
    let len : length c.read_at.new.buffer ≡ 24 + c.args.size = search rules in
    let read : frame c.args.size log c.args.i ≡ c.read_at.new.buffer =
    ap (λ (at : ℕ). part log at (24 + c.args.size)) (sym c.offset_of-at.ensures) ∙ held_is_part log _ _ _ (c.in-Ok.ensures.ok known) len in
    sym read
