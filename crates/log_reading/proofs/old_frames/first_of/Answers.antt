use Rattle.std.proofs.Common.{sym, ◌∙◌, inl, inr, refl, arith}
use Rattle.std.proofs.lemmas.Bool.{false≢true}
use Rattle.sqlite_wal.proofs.PartLemmas.{frames_len-le}
use Rattle.log_reading.specs.Frames.{HasFrame}
use Rattle.log_reading.proofs.OldReading.{alone_from, alone_to, first_joined}
use Rattle.log_reading.proofs.old_frames.first_of.Goals as goal

pub read_frame-requires-clause-within : goal.read_frame-requires-clause-within
read_frame-requires-clause-within g c = omega (arith, c.requires.within, frames_len-le c.args.size 0 1 (omega arith))

pub returns-then-counts_alone-clause-ok : goal.returns-then-counts_alone-clause-ok
returns-then-counts_alone-clause-ok g c known =
    let within : HasFrame c.args.size (g.L.ReadAt.bytes c.args.log.now) 1 = omega (arith, c.requires.len known, c.requires.within) in
    let one = c.in_ok-read_frame-2.ensures.ok known in
    let alone = alone_from _ _ _ _ _ (c.in_ok-read_frame.ensures.ok known) c.get_sums-before.ensures one within (c.counts_alone.ensures.0 c.if-counts_alone.true) in
    first_joined _ _ _ _ _ _ _ one (c.and.ensures.sums ∙ c.get_sums-sums.ensures) c.and.ensures.same c.and.ensures.later (inl (alone, c.get_be32.ensures))

pub returns-else-counts_alone-clause-ok : goal.returns-else-counts_alone-clause-ok
returns-else-counts_alone-clause-ok g c known =
    let one = c.in_ok-read_frame-2.ensures.ok known in
    first_joined _ _ _ 0 _ _ _ one (c.and-else-counts_alone.ensures.sums ∙ c.get_sums-sums.ensures) c.and-else-counts_alone.ensures.same c.and-else-counts_alone.ensures.later
    (inr (λ alone. false≢true (sym c.if-counts_alone.false ∙ c.counts_alone.ensures.1 (alone_to _ _ _ _ _ (c.in_ok-read_frame.ensures.ok known) c.get_sums-before.ensures one alone)), refl))
