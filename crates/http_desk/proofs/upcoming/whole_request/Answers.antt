use Rattle.std.proofs.Common.{List, ℕ, length, ap, arith, refl, sym, subst, ◌∙◌}
use Rattle.http_desk.specs.Counted.{inner_of}
use Rattle.http_text.specs.Reads.{Awaits}
use Rattle.http_text.proofs.lemmas.CuttingLemmas.{after_failure}
use Rattle.http_desk.proofs.lemmas.UpcomingLemmas.{HasHead-append, HasHead-is, ReadsOn-read, ReadsOn-same, awaits_body, ended_busy, ended_short, whole_part}
use Rattle.http_desk.proofs.upcoming.whole_request.Goals as goal

pub returns-in_default-clause-reads : goal.returns-in_default-clause-reads
returns-in_default-clause-reads g c = ReadsOn-same Awaits _ _ _ _ _ _ c.reserve.ensures.bytes c.reserve.ensures.turns c.args.reader.now.reads_fit

pub loop-input-init : goal.loop-input-init
loop-input-init g c = (
  ReadsOn-same Awaits _ _ _ _ _ _ c.reserve.ensures.bytes c.reserve.ensures.turns c.args.reader.now.reads_fit,
  refl,
  HasHead-is _ _ _ c.requires c.reserve.ensures.bytes,
  c.in-Ok.ensures.ok,
  refl,
)

pub loop-input-preserved : goal.loop-input-preserved
loop-input-preserved g c =
    let reads = c.read_more.ensures.reads in (
      ReadsOn-read Awaits _ _ _ _ _ _ _ _ _ _ _ _ _ c.loop-input.invariant.0 (awaits_body _ _ c.loop-input.invariant.2 (omega (arith, c.loop-input-test.true, ap length c.unread.ensures))) reads c.read_more.ensures.one,
      c.in_ok-read_more.ensures.kept ∙ c.loop-input.invariant.1,
      HasHead-is _ _ _ (HasHead-append _ reads.more _ c.loop-input.invariant.2) reads.grown,
      omega (arith, c.loop-input.invariant.3, c.read_more.ensures.room),
      (let met = rw c.if-not-branch.false at c.in_ok-read_more.ensures.met in met ∙ c.loop-input.invariant.4),
    )

pub returns-clause-next : goal.returns-clause-next
returns-clause-next g c =
    λ society. whole_part _ _ c.loop-input.invariant.2 (omega (arith, ap length c.unread.ensures))

pub returns-then-not-branch-clause-reads : goal.returns-then-not-branch-clause-reads
returns-then-not-branch-clause-reads g c =
    ReadsOn-read Awaits _ _ _ _ _ _ _ _ _ _ _ _ _ c.loop-input.invariant.0 (awaits_body _ _ c.loop-input.invariant.2 (omega (arith, c.loop-input-test.true, ap length c.unread.ensures))) c.read_more.ensures.reads
    c.read_more.ensures.one

pub returns-in_default-clause-next : goal.returns-in_default-clause-next
returns-in_default-clause-next g c =
    ended_busy _ (g.R.Read.remaining (inner_of c.args.reader.now)) c.args.head (HasHead-is _ _ _ c.requires c.reserve.ensures.bytes) c.in_default.ensures.full

pub returns-in_err-read_more-clause-awaits : goal.returns-in_err-read_more-clause-awaits
returns-in_err-read_more-clause-awaits g c =
    let P : List ℕ → Type 0 = λ v. Awaits v in
    after_failure _ (subst P (sym c.in_err-read_more.ensures.stays)
    (awaits_body _ _ c.loop-input.invariant.2 (omega (arith, c.loop-input-test.true, ap length c.unread.ensures))))

pub returns-then-not-branch-clause-next : goal.returns-then-not-branch-clause-next
returns-then-not-branch-clause-next g c =
    let e = c.in_ok-read_more.ensures.end c.if-not-branch.true in
    ended_short _ (g.R.Read.remaining (inner_of c.read_more.new.reader)) c.args.head e.1 (HasHead-is _ _ _ c.loop-input.invariant.2 e.0)
    (omega (arith, c.loop-input-test.true, ap length e.0, ap length c.unread.ensures))

pub returns-in_err-read_more-clause-reads : goal.returns-in_err-read_more-clause-reads
returns-in_err-read_more-clause-reads g c =
    ReadsOn-read Awaits _ _ _ _ _ _ _ _ _ _ _ _ _ c.loop-input.invariant.0 (awaits_body _ _ c.loop-input.invariant.2 (omega (arith, c.loop-input-test.true, ap length c.unread.ensures))) c.read_more.ensures.reads
    c.read_more.ensures.one
