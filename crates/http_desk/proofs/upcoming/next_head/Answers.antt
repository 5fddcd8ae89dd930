use Rattle.std.proofs.Common.{List, ℕ, inl, refl, sym, subst, ◌∙◌}
use Rattle.http_text.specs.Reads.{Awaits, AwaitsHead}
use Rattle.http_text.proofs.lemmas.CuttingLemmas.{after_failure}
use Rattle.http_desk.proofs.lemmas.UpcomingLemmas.{ReadsOn-read, ReadsOn-same, so_bad, so_large}
use Rattle.http_desk.specs.Counted.{inner_of}
use Rattle.http_desk.proofs.upcoming.next_head.Goals as goal

pub loop-head-init : goal.loop-head-init
loop-head-init g c = (ReadsOn-same Awaits _ _ _ _ _ _ refl refl c.args.reader.now.reads_fit, refl, refl)

pub loop-head-preserved : goal.loop-head-preserved
loop-head-preserved g c = (
  ReadsOn-read Awaits _ _ _ _ _ _ _ _ _ _ _ _ _ c.loop-head.invariant.0 (inl (rw c.unread.ensures at c.in-Partial.ensures)) c.read_more.ensures.reads c.read_more.ensures.one,
  c.in_ok-read_more.ensures.kept ∙ c.loop-head.invariant.1,
  (let met = rw c.if-not-branch.false at c.in_ok-read_more.ensures.met in met ∙ c.loop-head.invariant.2),
)

pub returns-then-not-branch-clause-reads : goal.returns-then-not-branch-clause-reads
returns-then-not-branch-clause-reads g c =
    ReadsOn-read Awaits _ _ _ _ _ _ _ _ _ _ _ _ _ c.loop-head.invariant.0 (inl (rw c.unread.ensures at c.in-Partial.ensures)) c.read_more.ensures.reads c.read_more.ensures.one

pub returns-in-TooLarge-clause-next : goal.returns-in-TooLarge-clause-next
returns-in-TooLarge-clause-next g c = so_large _ (g.R.Read.remaining (inner_of c.loop-head.reader)) (rw c.unread.ensures at c.in-TooLarge.ensures)

pub returns-in-Bad-clause-next : goal.returns-in-Bad-clause-next
returns-in-Bad-clause-next g c = so_bad _ (g.R.Read.remaining (inner_of c.loop-head.reader)) (rw c.unread.ensures at c.in-Bad.ensures)

pub returns-in_err-read_more-clause-awaits : goal.returns-in_err-read_more-clause-awaits
returns-in_err-read_more-clause-awaits g c =
    let P : List ℕ → Type 0 = λ v. AwaitsHead v in
    let Q : List ℕ → Type 0 = λ v. Awaits v in
    after_failure _ (subst Q (sym c.in_err-read_more.ensures.stays) (inl (subst P c.unread.ensures c.in-Partial.ensures)))

pub returns-in_err-read_more-clause-reads : goal.returns-in_err-read_more-clause-reads
returns-in_err-read_more-clause-reads g c =
    ReadsOn-read Awaits _ _ _ _ _ _ _ _ _ _ _ _ _ c.loop-head.invariant.0 (inl (rw c.unread.ensures at c.in-Partial.ensures)) c.read_more.ensures.reads c.read_more.ensures.one
