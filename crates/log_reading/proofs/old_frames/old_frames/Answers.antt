use Rattle.std.proofs.Common.{◌≡◌, List, ℕ, length, sym, ◌∙◌, ap, inl, inr, arith}
use Rattle.std.proofs.lemmas.Bool.{false≢true, cases_eq}
use Rattle.sqlite_wal.specs.Format.{part}
use Rattle.log_reading.specs.Frames.{HasFrame, Joins, salts}
use Rattle.log_reading.proofs.OldReading.{salts_len, joins_from, joins_to, joined_more, old_end_some, old_end_none}
use Rattle.log_reading.proofs.old_frames.old_frames.Goals as goal

pub loop-i-preserved : goal.loop-i-preserved
loop-i-preserved g c = record {
  early = elim (cases_eq c.get_be32.result 0) [
    | inl none ↦ omega (arith, (c.and-old.ensures.same none).0, c.loop-i.invariant.early)
    | inr some ↦ omega (arith, (c.and-old.ensures.later some).0)
  ];
  known = λ known.
      let log = g.L.ReadAt.bytes c.args.log.now in
      let first : HasFrame c.args.size log 1 = omega (arith, c.requires.len known, c.requires.within) in
      let within : HasFrame c.args.size log c.loop-i.i = omega (arith, c.requires.len known, c.frames_in-i-end.ensures.within c.loop-i.i (omega arith)) in
      let own : c.salts_of-salts.result ≡ salts c.args.size log 1 = c.salts_of-salts.ensures ∙ ap (λ (it : List ℕ). part it 8 8) (c.in_ok-old.ensures.buffer known) in
      let frame = c.in_ok-read_frame.ensures.ok known in
      let old = c.loop-i.invariant.known known in
      let joins = joins_from _ _ _ _ _ _ frame old.summed own (ap length own ∙ salts_len c.args.size log first) within (c.joins.ensures.0 c.if-not-joins.false) in
      joined_more _ _ _ _ _ _ _ _ _ _ _ old c.loop-i.auto.i joins frame c.get_be32.ensures (c.and-old.ensures.sums ∙ c.get_sums.ensures) c.and-old.ensures.same c.and-old.ensures.later;
}

pub returns-then-not-joins-clause-some : goal.returns-then-not-joins-clause-some
returns-then-not-joins-clause-some g c known some =
    let log = g.L.ReadAt.bytes c.args.log.now in
    let first : HasFrame c.args.size log 1 = omega (arith, c.requires.len known, c.requires.within) in
    let own : c.salts_of-salts.result ≡ salts c.args.size log 1 = c.salts_of-salts.ensures ∙ ap (λ (it : List ℕ). part it 8 8) (c.in_ok-old.ensures.buffer known) in
    let old = c.loop-i.invariant.known known in
    let ends : ¬ Joins c.args.size log c.loop-i.i = λ on. false≢true (sym c.if-not-joins.true ∙ c.joins.ensures.1 (joins_to _ _ _ _ _ _ (c.in_ok-read_frame.ensures.ok known) old.summed own (ap length own ∙ salts_len c.args.size log first) on)) in
    old_end_some _ _ _ _ _ _ old c.loop-i.auto.i ends some

pub returns-then-not-joins-clause-none : goal.returns-then-not-joins-clause-none
returns-then-not-joins-clause-none g c known none =
    let log = g.L.ReadAt.bytes c.args.log.now in
    let first : HasFrame c.args.size log 1 = omega (arith, c.requires.len known, c.requires.within) in
    let own : c.salts_of-salts.result ≡ salts c.args.size log 1 = c.salts_of-salts.ensures ∙ ap (λ (it : List ℕ). part it 8 8) (c.in_ok-old.ensures.buffer known) in
    let old = c.loop-i.invariant.known known in
    let ends : ¬ Joins c.args.size log c.loop-i.i = λ on. false≢true (sym c.if-not-joins.true ∙ c.joins.ensures.1 (joins_to _ _ _ _ _ _ (c.in_ok-read_frame.ensures.ok known) old.summed own (ap length own ∙ salts_len c.args.size log first) on)) in
    old_end_none _ _ _ _ _ _ old c.loop-i.auto.i ends none
