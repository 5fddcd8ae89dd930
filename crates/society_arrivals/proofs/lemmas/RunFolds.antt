-- How a run goes on: by the rows of the numbers behind its own, and over the ends of segments.
use Rattle.std.proofs.Common.{◌≡◌, ◌∙◌, ◌<◌, ◌≤◌, ◌+◌, ◌++◌, ℕ, suc, pos, true, false, List, [], ◌∷◌, Option, Some, None, is_some, length, fold, refl, ap, ap₂, sym, subst, arith, append_assoc, map, unwrap_or}
use Rattle.std.proofs.lemmas.List.{map_push}
use Rattle.share_rules.specs.declared.office.Office.{Office}
use Rattle.sqlite_keyed.proofs.ListLemmas.{all-append}
use Rattle.sqlite_trees.specs.Tree.{Trees}
use Rattle.sqlite_value.specs.declared.value.Value.TheVariants.{Int, Text}
use Rattle.sqlite_value.specs.Order.{Row}
use Rattle.sender_segments.specs.Ways.{numbers_up_to}
use Rattle.sender_segments.proofs.lemmas.Ranks.{room_before}
use Rattle.sender_segments.proofs.lemmas.Reached.{next_numbers, next_reached, next_segment}
use Rattle.society_core.specs.Book.{AreOrderly, Book, body_at, ends_of, is_there}
use Rattle.society_core.specs.Keys.{transmission_key}
use Rattle.society_core.proofs.lemmas.Fronts.{has_sequence}
use Rattle.society_rows.specs.Folds.{AreFrom, HasTaken, IsRun}
use Rattle.society_rows.specs.Layout as layout
use Rattle.society_rows.specs.Reads.{Lists, has_key}
use Rattle.society_book.specs.BookRows.{row_of_some, transmission_row}
use Rattle.society_book.specs.Columns.{blob_at, whole_number_at}
use Rattle.society_arrivals.specs.Going.{ComesTo, ComesToGap, HasAbove, RunsOn, StaysIn}
use Rattle.society_arrivals.specs.Runs.{Notes, RunValue, notes_in, take_row}
use Rattle.society_book.proofs.lemmas.rows_alike.KeyRows.{transmission_listed}
use Rattle.work_ids.specs.Segments.{segment_of}

-- a run with the transmission that a body is, under a number
abbrev with_body : RunValue → ℕ → List ℕ → RunValue
with_body run n body = record run { reached = n; notes = run.notes ++ notes_in run.office n body ∷ [] }

-- a row that is found under a number has that number, and the body there
record IsFound (b : Book) (s : List ℕ) (n : ℕ) (row : Row) : Type 0 where
  there : body_at b s n ≡ Some (blob_at 2 row)
  number : whole_number_at 1 row ≡ n

module _ (o : Office) (b : Book) (s : List ℕ) (order : AreOrderly b.transmissions b.ends s) (from low : ℕ) (db : Trees) (above : HasAbove b s low db) where
  found_row : (n : ℕ) (row : Row) → low < n → Lists layout.transmissions (has_key (Text s ∷ Int (pos n) ∷ [])) 2 db (row ∷ []) → IsFound b s n row
  found_row n row past lists = by_body (body_at above.before s n) refl (transmission_listed above.before db above.has (transmission_key s n) (row ∷ []) lists)
    where
      by_body : (kept : Option (List ℕ)) → body_at above.before s n ≡ kept → row ∷ [] ≡ row_of_some (transmission_row (transmission_key s n)) kept → IsFound b s n row
      by_body None is e = absurd (let h = e in cc)
      by_body (Some body) is e =
          let one : row ≡ transmission_row (transmission_key s n) body = cc in
          record { there = sym (above.same n past) ∙ is ∙ ap Some (sym (ap (blob_at 2) one)); number = ap (whole_number_at 1) one }

  found_none : (n : ℕ) → low < n → Lists layout.transmissions (has_key (Text s ∷ Int (pos n) ∷ [])) 2 db [] → is_there b s n ≡ false
  found_none n past lists = by_body (body_at above.before s n) refl (transmission_listed above.before db above.has (transmission_key s n) [] lists)
    where
      by_body : (kept : Option (List ℕ)) → body_at above.before s n ≡ kept → [] ≡ row_of_some (transmission_row (transmission_key s n)) kept → is_there b s n ≡ false
      by_body None is e = ap is_some (sym (above.same n past) ∙ is)
      by_body (Some body) is e = absurd (let h = e in cc)

  -- what a run comes to with one more row
  record IsNext (run next : RunValue) : Type 0 where
    comes : ComesTo o b s from next
    reached : next.reached ≡ run.reached + 1
    segment : segment_of next.reached ≡ segment_of run.reached

  next_body : (run : RunValue) (body : List ℕ) → ComesTo o b s from run → body_at b s (run.reached + 1) ≡ Some body → IsNext run (with_body run (run.reached + 1) body)
  next_body run body comes is =
      let n = run.reached + 1 in
      let there : is_there b s n ≡ true = ap is_some is in
      let room = room_before run.reached (has_sequence b.transmissions b.ends s order n there) in
      let x = notes_in run.office n body in
      record {
        comes = record {
          its = comes.its;
          reached = next_reached (ends_of b s) order.right (is_there b s) run.reached room comes.reached there;
          numbers =
              next_numbers (ends_of b s) order.right run.reached room
              ∙ ap (λ (ns : List ℕ). ns ++ n ∷ []) comes.numbers
              ∙ append_assoc (numbers_up_to (ends_of b s) from) (numbers_of run.notes) (n ∷ [])
              ∙ ap (λ (ns : List ℕ). numbers_up_to (ends_of b s) from ++ ns) (sym (map_push (λ (y : Notes). y.number) run.notes x));
          each =
              all-append (IsNoted b) run.notes (x ∷ []) comes.each
              (ap₂ (λ (p : Office) (kept : Option (List ℕ)). notes_in p n (unwrap_or kept [])) comes.its (sym is), tt);
        };
        reached = refl;
        segment = next_segment (ends_of b s) order.right run.reached room;
      }
    where
      numbers_of : List Notes → List ℕ
      numbers_of notes = map (λ (y : Notes). y.number) notes

      IsNoted : Book → Notes → Type 0
      IsNoted c y = y ≡ notes_in o y.number (unwrap_or (body_at c s y.number) [])

  next_row : (run : RunValue) (row : Row) → low ≤ run.reached → ComesTo o b s from run → Lists layout.transmissions (has_key (Text s ∷ Int (pos (run.reached + 1)) ∷ [])) 2 db (row ∷ []) → IsNext run (take_row run row)
  next_row run row le comes lists =
      let found = found_row (run.reached + 1) row (omega (arith, le)) lists in
      subst (λ (m : ℕ). IsNext run (with_body run m (blob_at 2 row))) (sym found.number) (next_body run (blob_at 2 row) comes found.there)

  -- what it comes to with some rows
  record IsBehind (run next : RunValue) (count : ℕ) : Type 0 where
    comes : ComesTo o b s from next
    reached : next.reached ≡ run.reached + count
    segment : segment_of next.reached ≡ segment_of run.reached

  on_rows : (rows : List Row) (run : RunValue) → low ≤ run.reached → ComesTo o b s from run → AreFrom s (run.reached + 1) db rows → IsBehind run (fold take_row run rows) (length rows)
  on_rows [] run le comes are = record { comes = comes; reached = omega arith; segment = refl }
  on_rows (row ∷ rows) run le comes are =
      let next = next_row run row le comes are.0 in
      let further = next.reached in
      let at : suc (run.reached + 1) ≡ (take_row run row).reached + 1 = omega (arith, further) in
      let behind = on_rows rows (take_row run row) (omega (arith, le, further)) next.comes (subst (λ (k : ℕ). AreFrom s k db rows) at are.1) in
      let last = behind.reached in
      record { comes = behind.comes; reached = omega (arith, further, last); segment = behind.segment ∙ next.segment }

  -- by the rows up to the first number that is not there it comes to a gap of its segment
  pub over_rows : (rows : List Row) (run : RunValue) → low ≤ run.reached → ComesTo o b s from run → IsRun s (run.reached + 1) db rows → ComesToGap o b s from (fold take_row run rows) × StaysIn run (fold take_row run rows)
  over_rows rows run le comes is =
      let behind = on_rows rows run le comes is.each in
      let last = behind.reached in
      let at : length rows + (run.reached + 1) ≡ (fold take_row run rows).reached + 1 = omega (arith, last) in (
        record {
          comes = behind.comes;
          missing = subst (λ (k : ℕ). is_there b s k ≡ false) at (found_none (length rows + (run.reached + 1)) (omega (arith, le)) is.gap);
        },
        record { later = omega (arith, last); segment = behind.segment },
      )

-- a run that has taken the rows of the numbers behind its own has gone on by them
pub taken_runs : (s : List ℕ) (next : ℕ) (old new : RunValue) (db : Trees) → next ≡ old.reached + 1 → HasTaken take_row (IsRun s next db) old new → RunsOn s old new db
taken_runs s next old new db at taken o b from above order comes =
    subst (λ (run : RunValue). ComesToGap o b s from run × StaysIn old run) (sym taken.folded)
    (over_rows o b s order from old.reached db above taken.rows old (omega arith) comes (subst (λ (k : ℕ). IsRun s k db taken.rows) at taken.these))
