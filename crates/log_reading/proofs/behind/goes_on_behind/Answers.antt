use Rattle.std.proofs.Common.{◌≡◌, ◌≢◌, ◌↔◌, ◌+◌, ◌-◌, ◌≤◌, ℕ, eqb, IsTrue, sym, ◌∙◌, arith}
use Rattle.std.proofs.lemmas.Bool.{eq-eqb, eqb-true, false≢true}
use Rattle.sqlite_wal.specs.Format.{commit_size}
use Rattle.log_reading.specs.Frames.{HasFrame}
use Rattle.log_reading.proofs.Watching.{begin_watch, step}
use Rattle.log_reading.proofs.behind.goes_on_behind.Goals.{else-on-via-then-on+else-get_be32-ne0, else-on-via-else-on}
use Rattle.log_reading.proofs.behind.goes_on_behind.Goals as goal

is_next : (from i : ℕ) → from ≤ i → IsTrue (eqb (i - from) 1) ↔ (i ≡ from + 1)
is_next from i low = (
  λ yes'. let one = eqb-true (i - from) 1 yes' in omega arith,
  λ same. let one : i - from ≡ 1 = omega arith in eq-eqb _ _ one,
)

pub loop-i-init : goal.loop-i-init
loop-i-init g c known = begin_watch _ _ _ _ (c.requires.sums known)

pub loop-i-preserved : goal.loop-i-preserved
loop-i-preserved g c known =
    let low : c.args.end.frames ≤ c.loop-i.i = c.loop-i.auto.i in
    let within : HasFrame c.args.size (g.L.ReadAt.bytes c.args.log.now) c.loop-i.i = omega (arith, c.requires.len known, c.frames_in.ensures.within c.loop-i.i (omega arith)) in
    let quiet : IsTrue c.goes_on-on.result → commit_size c.read_frame.new.buffer ≢ 0 → ⊥ = elim c.else-on.branch [
      | else-on-via-then-on+else-get_be32-ne0 w ↦ λ yes' some. some (sym w.get_be32.ensures ∙ w.if-get_be32-ne0.false)
      | else-on-via-else-on w ↦ λ yes' some. false≢true (sym w.if-on.false ∙ yes')
    ] in
    step _ _ _ _ _ _ _ _ _ _ _ _ (c.loop-i.invariant known) low within (c.in_ok-read_frame.ensures.ok known) (c.requires.head known) c.goes_on-on.ensures
    c.has_ended_by-has_ended.ensures (is_next _ _ low) quiet c.get_sums-sums.ensures
