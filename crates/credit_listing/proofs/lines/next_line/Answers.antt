use Rattle.std.proofs.Common.{◌≡◌, ◌≤◌, ◌∙◌, List, None, Some, ap, arith, drop, false, length, rules, subst, sym, ℕ}
use Rattle.std.proofs.lemmas.List.{length-drop}
use Rattle.http_desk.specs.Input.{unread}
use Rattle.memchr.specs.Find.{IsFirstByte, is_byte}
use Rattle.http_desk.specs.Counted.{failures_of}
use Rattle.credit_listing.specs.Lines.{IsReadFault, NoFeed}
use Rattle.credit_listing.proofs.lemmas.FeedLemmas.{comes_on, found_line, last_line, rest_is, searched, still_none, told_so}
use Rattle.credit_listing.proofs.lines.next_line.Goals as goal

pub returns-in-Some-clause-line : goal.returns-in-Some-clause-line
returns-in-Some-clause-line g c =
    let bytes = unread c.loop.input in
    let found = subst (λ (u : List ℕ). IsFirstByte (is_byte 10) (drop c.loop.seen u) (Some c.in-Some.place)) c.unread.ensures
    (subst (IsFirstByte (is_byte 10) (drop c.loop.seen c.unread.result.now)) c.in-Some.is (subst (λ (h : List ℕ). IsFirstByte (is_byte 10) h c.memchr.result) (rest_is c.loop.seen c.unread.result.now) c.memchr.ensures)) in
    let long = length-drop c.loop.seen bytes in
    let high = found.0.high in
    found_line bytes c.loop.seen c.in-Some.place c.loop.invariant.none (omega (arith, long, high)) found.0.before found.1

pub returns-then-not-branch-clause-line : goal.returns-then-not-branch-clause-line
returns-then-not-branch-clause-line g c =
    let bytes = unread c.loop.input in
    let count = length c.unread-seen.result.now in
    let nowhere = subst (λ (u : List ℕ). IsFirstByte (is_byte 10) (drop c.loop.seen u) None) c.unread.ensures
    (subst (IsFirstByte (is_byte 10) (drop c.loop.seen c.unread.result.now)) c.in_default.is (subst (λ (h : List ℕ). IsFirstByte (is_byte 10) h c.memchr.result) (rest_is c.loop.seen c.unread.result.now) c.memchr.ensures)) in
    let none = subst (NoFeed bytes) (ap length (sym c.unread-seen.ensures)) (searched bytes c.loop.seen c.loop.invariant.within c.loop.invariant.none nowhere) in
    let gave : c.in_ok-read_on.field-0 ≡ false = search rules in
    let same = (c.in_ok-read_on.ensures.ended gave).0 in
    last_line (unread c.read_on.new.input) count (ap length (c.unread-seen.ensures ∙ sym same)) (subst (λ (u : List ℕ). NoFeed u count) (sym same) none)

pub loop-preserved : goal.loop-preserved
loop-preserved g c =
    let bytes = unread c.loop.input in
    let count = length c.unread-seen.result.now in
    let nowhere = subst (λ (u : List ℕ). IsFirstByte (is_byte 10) (drop c.loop.seen u) None) c.unread.ensures
    (subst (IsFirstByte (is_byte 10) (drop c.loop.seen c.unread.result.now)) c.in_default.is (subst (λ (h : List ℕ). IsFirstByte (is_byte 10) h c.memchr.result) (rest_is c.loop.seen c.unread.result.now) c.memchr.ensures)) in
    let none = subst (NoFeed bytes) (ap length (sym c.unread-seen.ensures)) (searched bytes c.loop.seen c.loop.invariant.within c.loop.invariant.none nowhere) in
    let came = c.in_ok-read_on.ensures.came in
    let all : count ≤ length bytes = (let e = ap length c.unread-seen.ensures in omega (arith, e)) in
    record {
      within = c.in_ok-read_on.ensures.more;
      none = subst (λ (u : List ℕ). NoFeed u count) (sym came.1) (still_none bytes came.0 count all none);
      reads = c.in_ok-read_on.ensures.kept ∙ c.loop.invariant.reads;
      came = comes_on g.R.Read.remaining c.args.reader.now c.loop.reader c.read_on.new.reader c.args.input.now c.loop.input c.read_on.new.input c.loop.invariant.came came;
    }

pub returns-in_err-read_on-clause-failed : goal.returns-in_err-read_on-clause-failed
returns-in_err-read_on-clause-failed g c =
    told_so c.in_err-read_on.field-0.0 c.from_residual.result (failures_of c.args.reader.now) (failures_of c.read_on.new.reader)
    (subst (λ (n : ℕ). IsReadFault c.in_err-read_on.field-0.0 n (failures_of c.read_on.new.reader)) c.loop.invariant.reads c.in_err-read_on.ensures.failed) c.from_residual.ensures.1
