use Rattle.std.proofs.Common.{◌≡◌, ◌+◌, ◌-◌, ◌*◌, ◌<◌, length, rules, arith}
use Rattle.std.proofs.lemmas.Bool.{false≢true}
use Rattle.log_reading.proofs.OldReading.{page_beyond, page_decides}
use Rattle.log_reading.proofs.old_frames.has_page.Goals as goal

pub returns-then-db_len-at-clause-ok : goal.returns-then-db_len-at-clause-ok
returns-then-db_len-at-clause-ok g c known =
    let short : length (g.D.ReadAt.bytes c.args.db.now) < (c.args.page - 1) * length c.args.content.now + length c.args.content.now = omega (arith, c.requires.len known) in
    (λ never. absurd (false≢true never), λ same. absurd (page_beyond _ _ _ c.requires.size.0 short same))

pub returns-clause-ok : goal.returns-clause-ok
returns-clause-ok g c known =
    let len : length c.read_at.new.buffer ≡ length c.args.content.now = search rules in
    page_decides _ _ _ _ _ c.eq.ensures (c.in-Ok.ensures.ok known) len
