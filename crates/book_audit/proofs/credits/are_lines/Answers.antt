use Rattle.std.proofs.Common.{◌≡◌, ◌∙◌, ◌+◌, ◌++◌, ℕ, List, ap, ap₂, arith, length, sym, take}
use Rattle.std.proofs.Math.Seq.{take-append_seam}
use Rattle.std.proofs.lemmas.Bool.{false≢true}
use Rattle.std.proofs.lemmas.List.{length-append, take-append-drop}
use Rattle.pool_split.specs.Credits.{credits_together}
use Rattle.pool_split.specs.declared.claim.Credit.{Credit}
use Rattle.sqlite_value.specs.Order.{Row}
use Rattle.society_closings.specs.Closings.{lines_from}
use Rattle.book_audit.proofs.lemmas.credits.Portions.{left_is, left_next, lines_many}
use Rattle.book_audit.proofs.credits.are_lines.Goals as goal

pub returns-in_default-clause-alike : goal.returns-in_default-clause-alike
returns-in_default-clause-alike c = (
  λ no. absurd (false≢true no),
  λ whole.
      let one : List Credit = c.portion-item.result in
      let is = left_is c.args.portions.now c.loop-portion.portion-index one c.loop-portion-test.true c.portion-item.is c.args.pool c.args.rows.now c.loop-portion.left.now c.loop-portion.line c.loop-portion.invariant.line c.loop-portion.invariant.rows whole in
      let lengths = ap length is ∙ length-append (lines_from c.args.pool c.loop-portion.line one) _ in
      absurd (omega (arith, lengths, lines_many c.args.pool c.loop-portion.line one, c.in_default.ensures.cases, c.len.ensures, ap length c.in_ok-credits.ensures)),
)

pub returns-then-not-branch-clause-alike : goal.returns-then-not-branch-clause-alike
returns-then-not-branch-clause-alike c = (
  λ no. absurd (false≢true no),
  λ whole.
      let one : List Credit = c.portion-item.result in
      let pool = c.args.pool in
      let line = c.loop-portion.line in
      let left = c.loop-portion.left.now in
      let is = left_is c.args.portions.now c.loop-portion.portion-index one c.loop-portion-test.true c.portion-item.is pool c.args.rows.now left line c.loop-portion.invariant.line c.loop-portion.invariant.rows whole in
      let its = lines_from pool line one in
      let credits = c.as_slice.ensures.value ∙ c.in_ok-credits.ensures in
      let many : c.len.result ≡ length its = omega (arith, c.len.ensures, ap length c.in_ok-credits.ensures, lines_many pool line one) in
      let here = c.in-Some.ensures.cases.1 ∙ ap (λ (k : ℕ). take k left) many ∙ ap (take (length its)) is ∙ take-append_seam its _ ∙ ap (lines_from pool line) (sym credits) in
      absurd (false≢true (sym c.if-not-branch.true ∙ c.in_ok-are_from.ensures.alike.1 here)),
)

pub loop-portion-preserved : goal.loop-portion-preserved
loop-portion-preserved c =
    let all = c.args.portions.now in
    let i = c.loop-portion.portion-index in
    let one : List Credit = c.portion-item.result in
    let pool = c.args.pool in
    let line = c.loop-portion.line in
    let left = c.loop-portion.left.now in
    let here = c.in-Some.here.now in
    let behind = c.in-Some.behind.now in
    let cut : left ≡ here ++ behind = sym (ap₂ (λ (front back : List Row). front ++ back) c.in-Some.ensures.cases.1 c.in-Some.ensures.cases.2 ∙ take-append-drop c.len.result left) in
    let same : here ≡ lines_from pool line one = c.in_ok-are_from.ensures.alike.0 c.if-not-branch.false ∙ ap (lines_from pool line) (c.as_slice.ensures.value ∙ c.in_ok-credits.ensures) in
    let rows = left_next all i one c.loop-portion-test.true c.portion-item.is pool c.args.rows.now left line c.loop-portion.invariant.line c.loop-portion.invariant.rows here behind cut same in
    let done = credits_together (take (i + 1) all) in
    record {
      line = omega (arith, ap length rows ∙ length-append (lines_from pool 0 done) behind, lines_many pool 0 done);
      rows = rows;
    }
