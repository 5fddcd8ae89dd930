use Rattle.std.proofs.Common.{arith}
use Rattle.std.proofs.lemmas.Bool.Decides.{nat_tests}
use Rattle.http_text.proofs.lemmas.HeadLemmas.{awaits_first, none_too_long, none_in_window, none_refused, bad_from_none, some_bytes}
use Rattle.http_desk.proofs.head.read_head.Goals as goal

pub returns-then-is_empty : goal.returns-then-is_empty
returns-then-is_empty c = awaits_first _ (grind (arith, nat_tests))

pub returns-then-spans-gt-MAX_HEAD : goal.returns-then-spans-gt-MAX_HEAD
returns-then-spans-gt-MAX_HEAD c = λ more.
    let found = rw c.in-Ok-Complete.field-0-is at c.in-Ok-Complete.ensures.complete in
    bad_from_none _ more (some_bytes _ c.if-is_empty.ensures)
    (none_too_long _ more _ found.0 found.1.reads (omega (arith, found.1.len)))

pub returns-then-bytes-lt-MAX_HEAD : goal.returns-then-bytes-lt-MAX_HEAD
returns-then-bytes-lt-MAX_HEAD c =
    let none = rw c.in-Ok-Partial.field-0-is at c.in-Ok-Partial.ensures.partial in
    let open_yet = rw c.in-Ok-Partial.field-0-is at c.in-Ok-Partial.ensures.unfinished in
    record { none = none; short = c.if-bytes-lt-MAX_HEAD.true; possible = λ some. open_yet }

pub returns-else-bytes-lt-MAX_HEAD : goal.returns-else-bytes-lt-MAX_HEAD
returns-else-bytes-lt-MAX_HEAD c = λ more.
    let none = rw c.in-Ok-Partial.field-0-is at c.in-Ok-Partial.ensures.partial in
    bad_from_none _ more (some_bytes _ c.if-is_empty.ensures) (none_in_window _ more none c.if-bytes-lt-MAX_HEAD.false)

pub returns-in-Err : goal.returns-in-Err
returns-in-Err c = λ more.
    bad_from_none _ more (some_bytes _ c.if-is_empty.ensures) (none_refused _ more c.in-Err.ensures.no_room)
