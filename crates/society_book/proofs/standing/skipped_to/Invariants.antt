use Rattle.std.proofs.Common.{◌≡◌, Ok, flat_map, take}
use Rattle.sqlite.specs.Held.{state}
use Rattle.society_core.specs.Book.{ends_of, front}
use Rattle.society_rows.specs.Questions.{Asks}
use Rattle.society_book.specs.Shown.{ByBook}
use Rattle.society_book.specs.Standing.{AreSkipped, numbers_within}
use Rattle.society_book.proofs.standing.skipped_to.Given as goal

-- the numbers of the skips so far are in the list
abbrev pub invariant-loop-skip : goal.invariant-loop-skip
invariant-loop-skip g l =
    Asks {X = Unit {0}} (state g.S.Store l.fn.conn) (state g.S.Store l.conn) (Ok tt)
    (ByBook (λ _ book _. l.reached ≡ front book l.sender
    → AreSkipped (ends_of book l.sender) l.reached l.skip-items × (l.list.items ≡ flat_map (λ skip. numbers_within book l.sender skip.above skip.below) (take l.skip-index l.skip-items))))
