-- How a run goes on over the ends of segments, up to a front.
use Rattle.std.proofs.Common.{◌≡◌, ◌∙◌, ◌<◌, ◌≤◌, ◌+◌, ◌-◌, ◌++◌, ℕ, suc, Bool, true, false, cond, List, Option, Some, None, nat_le, refl, ap, sym, subst, arith, ⊎_elim}
use Rattle.std.proofs.lemmas.List.{append_cancel_left}
use Rattle.std.proofs.lemmas.Bool.{cases_lt, leb-false, leb-true}
use Rattle.share_rules.specs.declared.office.Office.{Office}
use Rattle.sqlite_trees.specs.Tree.{Trees}
use Rattle.sender_segments.specs.Ways.{AreRight, End, IsWithinEnd, StatedEnds, is_reached, numbers_up_to}
use Rattle.sender_segments.proofs.lemmas.Grows.{same_numbers}
use Rattle.sender_segments.proofs.lemmas.LedTo.{has_itself}
use Rattle.sender_segments.proofs.lemmas.Ranks.{bases_order, number_is}
use Rattle.sender_segments.proofs.lemmas.Reached.{all_of, leads_of, over_reached, over_same}
use Rattle.society_core.specs.Book.{AreOrderly, Book, end_at, ends_of, front, is_there, line}
use Rattle.society_core.specs.Growth.{GoesOn}
use Rattle.society_core.proofs.lemmas.Fronts.{front_led, front_only}
use Rattle.society_core.proofs.lemmas.LineNumbers.{line_is, one_passes}
use Rattle.society_arrivals.specs.Arriving.{GoesOnTo}
use Rattle.society_book.specs.EndLists.{behind_end, end_listed}
use Rattle.society_arrivals.specs.Going.{ComesTo, ComesToEnd, ComesToGap, RunsOn, RunsOver, RunsPast}
use Rattle.society_arrivals.specs.Runs.{IsWhole, RunValue, numbers_of_run}
use Rattle.work_ids.specs.SegmentEnds.{StatedEnd}
use Rattle.work_ids.specs.Segments.{base_of, most_in, segment_of, sequence_of}
use Rattle.society_book.proofs.lemmas.shown.Skips.{none_some, some_same}

-- an end that is reached, and the first rank behind it
record IsBehind (first reached : ℕ) (o : Option End) (next : ℕ) : Type 0 where
  end : End
  is : o ≡ Some end
  over : first + end.last ≤ reached
  at : next ≡ base_of end.next

behind_is : (first reached : ℕ) (o : Option End) (next : ℕ) → behind_end first reached o ≡ Some next → IsBehind first reached o next
behind_is first reached None next h = absurd (none_some next h)
behind_is first reached (Some end) next h = by_case (nat_le (first + end.last) reached) refl h
  where
    by_case : (c : Bool) → nat_le (first + end.last) reached ≡ c → cond c (Some (base_of end.next)) None ≡ Some next → IsBehind first reached (Some end) next
    by_case true le is = record { end = end; is = refl; over = leb-true (first + end.last) reached le; at = sym (some_same (base_of end.next) next is) }
    by_case false le is = absurd (none_some next is)

-- an end that is not reached
not_behind : (first reached : ℕ) (o : Option End) → behind_end first reached o ≡ None → (end : End) → o ≡ Some end → reached < first + end.last
not_behind first reached None h end is = absurd (none_some end is)
not_behind first reached (Some x) h end is = by_case (nat_le (first + x.last) reached) refl h
  where
    by_case : (c : Bool) → nat_le (first + x.last) reached ≡ c → cond c (Some (base_of x.next)) None ≡ None → reached < first + end.last
    by_case true le none = absurd (none_some (base_of x.next) (sym none))
    by_case false le none = subst (λ (e : End). reached < first + e.last) (some_same x end is) (leb-false (first + x.last) reached le)

module _ (o : Office) (b : Book) (s : List ℕ) (order : AreOrderly b.transmissions b.ends s) where
  -- what is reached is within the end of its segment
  reached_fits : (n : ℕ) → is_reached (is_there b s) (ends_of b s) n ≡ true → IsWithinEnd (ends_of b s) n
  reached_fits n reached end stated =
      ⊎_elim
      (λ (none : sequence_of n < 1). omega (arith, none))
      (λ (some : 1 ≤ sequence_of n).
      let there = one_passes (is_there b s) (numbers_up_to (ends_of b s) n) n (all_of (ends_of b s) order.right (is_there b s) n reached) (has_itself (ends_of b s) order.right n some) in
      order.within n there end stated)
      (cases_lt (sequence_of n) 1)

  module _ (from rank : ℕ) (run : RunValue) (same : segment_of run.reached ≡ segment_of rank) where
    first_is : base_of (segment_of rank) ≡ base_of (segment_of run.reached)
    first_is = ap base_of (sym same)

    -- over an end that it reaches a run comes to the first rank behind that
    pub over_end : (next : ℕ) → ComesTo o b s from run → behind_end (base_of (segment_of rank)) run.reached (ends_of b s (segment_of rank)) ≡ Some next → ComesTo o b s from (record run { reached = next }) × (run.reached ≤ next)
    over_end next comes is =
        let n = run.reached in
        let behind = behind_is (base_of (segment_of rank)) n (ends_of b s (segment_of rank)) next is in
        let end = behind.end in
        let stated : ends_of b s (segment_of n) ≡ Some end = ap (ends_of b s) same ∙ behind.is in
        let made = number_is n in
        let over = behind.over in
        let first = first_is in
        let low : end.last ≤ sequence_of n = omega (arith, made.is, over, first) in
        let high = reached_fits n comes.reached end stated in
        let last : end.last ≡ sequence_of n = omega (arith, low, high) in
        let led = leads_of (ends_of b s) order.right (is_there b s) n comes.reached in
        let later = order.right.later (segment_of n) end stated in
        let k = end.next - suc (segment_of n) in
        let at : suc (segment_of n) + k ≡ end.next = omega (arith, later) in
        let far = subst (λ (g : ℕ). base_of (segment_of n) + most_in (segment_of n) < base_of g) at (bases_order (segment_of n) k) in
        let is_next = behind.at in (
          subst (λ (m : ℕ). ComesTo o b s from (record run { reached = m })) (sym behind.at)
              (record {
                its = comes.its;
                reached = over_reached (ends_of b s) order.right (is_there b s) n end comes.reached stated low;
                numbers = over_same (ends_of b s) order.right (is_there b s) n end led stated last ∙ comes.numbers;
                each = comes.each;
              }),
          omega (arith, made.is, made.within, far, is_next),
        )

    -- where it reaches none, it has come to the end
    pub at_end : ComesToGap o b s from run → behind_end (base_of (segment_of rank)) run.reached (ends_of b s (segment_of rank)) ≡ None → ComesToEnd o b s from run
    at_end gap is = record {
      comes = gap.comes;
      gap = record {
        missing = gap.missing;
        before_end = λ end stated.
            let made = number_is run.reached in
            let first = first_is in
            let before = not_behind (base_of (segment_of rank)) run.reached (ends_of b s (segment_of rank)) is end (ap (ends_of b s) (sym same) ∙ stated) in
            omega (arith, made.is, before, first);
      };
    }

  -- the end to which a run comes is the front
  pub end_front : (from : ℕ) (run : RunValue) → ComesToEnd o b s from run → run.reached ≡ front b s
  end_front from run end = front_only b.transmissions b.ends s order.right run.reached end.comes.reached end.gap

  pub end_line : (from : ℕ) (run : RunValue) → ComesToEnd o b s from run → line b s ≡ numbers_up_to (ends_of b s) from ++ numbers_of_run run.notes
  end_line from run end = line_is b s order.right ∙ ap (numbers_up_to (ends_of b s)) (sym (end_front from run end)) ∙ end.comes.numbers

  -- from nothing it is the whole line
  pub whole_is : (run : RunValue) → ComesToEnd o b s 0 run → IsWhole o b s run
  whole_is run end = record { reached = end_front 0 run end; numbers = sym (end_line 0 run end); each = end.comes.each }

  -- between two books of which the second has what the first has, a line goes on by the run from the front of the first to the end
  module _ (a : Book) (right : AreRight (ends_of a s)) (keeps : (g : ℕ) (e : End) → end_at a s g ≡ Some e → end_at b s g ≡ Some e) (more : List ℕ) (goes : GoesOn a b s more) where
    pub goes_to : (run : RunValue) → ComesToEnd o b s (front a s) run → GoesOnTo o a b s run
    goes_to run end =
        let before = (same_numbers (ends_of a s) (ends_of b s) keeps (front a s) (front_led a.transmissions a.ends s)).0 ∙ sym (line_is a s right) in
        let grown : line b s ≡ line a s ++ numbers_of_run run.notes = end_line (front a s) run end ∙ ap (λ (ns : List ℕ). ns ++ numbers_of_run run.notes) before in
        let same : more ≡ numbers_of_run run.notes = append_cancel_left (line a s) more (numbers_of_run run.notes) (sym goes.grown ∙ grown) in
        record {
          goes = record { goes = subst (λ (ns : List ℕ). GoesOn a b s ns) same goes; each = end.comes.each };
          reached = end_front (front a s) run end;
        }

-- ---- over one end after another

-- a run that goes on over no end yet
pub past_none : (s : List ℕ) (ends : List StatedEnd) (begun : ℕ) (run : RunValue) (db : Trees) → RunsPast s ends begun run begun run db
past_none s ends begun run db o b from above order listed same gap = (gap, omega arith, same)

-- over one end more, and by the numbers behind it
pub past_more : (s : List ℕ) (ends : List StatedEnd) (begun : ℕ) (old : RunValue) (rank next : ℕ) (run after : RunValue) (db : Trees) → behind_end (base_of (segment_of rank)) run.reached (end_listed ends (segment_of rank)) ≡ Some next
    → RunsPast s ends begun old rank run db → RunsOn s (record run { reached = next }) after db → RunsPast s ends begun old next after db
past_more s ends begun old rank next run after db is past on o b from above order listed same gap =
    let before = past o b from above order listed same gap in
    let later = before.1 in
    let over = over_end o b s order from rank run before.2 next before.0.comes (ap (λ (stated : StatedEnds). behind_end (base_of (segment_of rank)) run.reached (stated (segment_of rank))) (sym listed) ∙ is) in
    let up = over.1 in
    let went = on o b from (record { before = above.before; has = above.has; same = λ k behind. above.same k (omega (arith, behind, up, later)) }) order over.0 in
    let further = went.1.later in
    (went.0, omega (arith, later, up, further), went.1.segment)

-- where it reaches no further end it has gone over all of them
pub past_all : (s : List ℕ) (ends : List StatedEnd) (begun : ℕ) (old : RunValue) (rank : ℕ) (run : RunValue) (db : Trees) → behind_end (base_of (segment_of rank)) run.reached (end_listed ends (segment_of rank)) ≡ None
    → RunsPast s ends begun old rank run db → RunsOver s ends begun old run db
past_all s ends begun old rank run db is past o b from above order listed same gap =
    let before = past o b from above order listed same gap in
    at_end o b s order from rank run before.2 before.0 (ap (λ (stated : StatedEnds). behind_end (base_of (segment_of rank)) run.reached (stated (segment_of rank))) (sym listed) ∙ is)
