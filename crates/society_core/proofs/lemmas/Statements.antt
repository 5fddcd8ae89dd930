-- What a statement lets go on, and what holds of a sender that stated nothing.
use Rattle.std.proofs.Common.{◌≡◌, ℕ, ◌+◌, ◌<◌, ◌≤◌, Bool, true, false, cond, List, Option, Some, None, length, ap, refl, sym, ◌∙◌, arith, ⊎_elim}
use Rattle.std.proofs.lemmas.Bool.{cases_Bool, cases_lt}
use Rattle.std.proofs.lemmas.List.FromFn.{length-range_with_len}
use Rattle.sender_segments.specs.Ways.{AreRight, End, IsGap}
use Rattle.sender_segments.proofs.lemmas.Ranks.{made_plain, number_is}
use Rattle.sender_segments.proofs.lemmas.Reached.{leads_is, next_reached}
use Rattle.work_ids.specs.Segments.{base_of, most_in, segment_of}
use Rattle.society_core.specs.Book.{Book, IsSound, ends_of, front, is_there}
use Rattle.society_core.specs.Answers.{end_answer, stating_answer}
use Rattle.society_core.specs.Ends.{end_known_by, place_stated, same_end}
use Rattle.society_core.specs.Laws.{NumbersOfPlainLines, OtherEndsAreReused, PlainLinesAreAlike, PlainLinesCountFromOne, PlainLinesEndAtGaps, StatementsLeadOn, StatesNothing}
use Rattle.sender_segments.specs.Ways.{end_stated}
use Rattle.society_core.specs.Requests.{Refused}
use Rattle.society_core.specs.declared.refusal.Refusal.TheVariants.{Reused}
use Rattle.society_core.specs.declared.store.Known.TheVariants.{Other, Same}
use Rattle.society_core.proofs.lemmas.Books.{sound_order}
use Rattle.society_core.proofs.lemmas.Changes.{same_end_is}
use Rattle.society_core.proofs.lemmas.Fronts.{all_there, front_gap, front_led, front_reaches, led_there}
use Rattle.society_core.proofs.lemmas.GrowthLemmas.{is_stated}
use Rattle.society_core.proofs.lemmas.HeadlineLemmas.{past_is_none}
use Rattle.society_core.proofs.lemmas.LineNumbers.{plain_in_line, plain_line}
use Rattle.society_core.proofs.lemmas.Stores.{end_entry}

pub leads_on : StatementsLeadOn
leads_on b s stated sound key right free none =
    is_stated b s (place_stated stated) (end_stated stated) sound free (end_entry s stated key right)
    (λ n there same. past_is_none b s (place_stated stated) stated.last n none there same)

pub sound_gap : (b : Book) (s : List ℕ) → IsSound b → IsGap (is_there b s) (ends_of b s) (front b s)
sound_gap b s sound = front_gap b.transmissions b.ends s (sound_order b sound s)

none_stated : (e : End) → ◌≡◌ {A = Option End} None (Some e) → ⊥
none_stated e h = cc

nothing_right : (b : Book) (s : List ℕ) → StatesNothing b s → AreRight (ends_of b s)
nothing_right b s nothing = record {
  within = λ g e stated. absurd (none_stated e (sym (nothing g) ∙ stated));
  later = λ g e stated. absurd (none_stated e (sym (nothing g) ∙ stated));
}

-- the front of a sender that stated nothing is a plain number
pub plain_front : (b : Book) (s : List ℕ) → StatesNothing b s → front b s < 1000000
plain_front b s nothing = ⊎_elim plain dated (cases_lt (segment_of (front b s)) 1)
  where
    plain : segment_of (front b s) < 1 → front b s < 1000000
    plain first =
        let g : segment_of (front b s) ≡ 0 = omega (arith, first) in
        let made = number_is (front b s) in
        let base : base_of (segment_of (front b s)) ≡ 0 = ap base_of g in
        let most : most_in (segment_of (front b s)) ≡ 999999 = ap most_in g in
        omega (arith, made.is, made.within, base, most)

    dated : 1 ≤ segment_of (front b s) → front b s < 1000000
    dated later =
        let at = leads_is (ends_of b s) (nothing_right b s nothing) (front b s) (front_led b.transmissions b.ends s) in
        let by = led_there (ends_of b s) (segment_of (front b s)) (omega (arith, at, later)) in
        absurd (none_stated by.1 (sym (nothing by.0) ∙ by.2))

pub plain_is_line : PlainLinesCountFromOne
plain_is_line b s nothing = plain_line b s (plain_front b s nothing)

pub plain_numbers_are : NumbersOfPlainLines
plain_numbers_are b s nothing n = plain_in_line b s (plain_front b s nothing) n

pub plain_ends : PlainLinesEndAtGaps
plain_ends b s nothing plain =
    ⊎_elim
    (λ (there : is_there b s (front b s + 1) ≡ true).
    let f = front b s in
    let below = plain (f + 1) there in
    let right = nothing_right b s nothing in
    let g = made_plain f (omega (arith, below)) in
    let made = number_is f in
    let base : base_of (segment_of f) ≡ 0 = ap base_of g in
    let most : most_in (segment_of f) ≡ 999999 = ap most_in g in
    let above = front_reaches b.transmissions b.ends s right (f + 1) (next_reached (ends_of b s) right (is_there b s) f (omega (arith, made.is, base, most, below)) (all_there b.transmissions b.ends s) there) in
    absurd (omega (arith, above)))
    (λ (gap : is_there b s (front b s + 1) ≡ false). gap)
    (cases_Bool (is_there b s (front b s + 1)))

-- lines of one sender that stated nothing have one front
pub plain_alike : PlainLinesAreAlike
plain_alike a b s first second same bodies = record {
  same_front =
      sym (length-range_with_len 1 (front a s))
      ∙ ap length (sym (plain_is_line a s first) ∙ same ∙ plain_is_line b s second)
      ∙ length-range_with_len 1 (front b s);
  same_line = same;
  same_bodies = bodies;
}

-- another end of a segment that has one is answered as reused
pub other_end_reused : OtherEndsAreReused
other_end_reused office b s stated kept right there other =
    ap (stating_answer b s stated) right
    ∙ ap (λ (o : Option End). end_answer b s (place_stated stated) (end_stated stated) (end_known_by (end_stated stated) o)) there
    ∙ by_case (same_end kept (end_stated stated)) refl
  where
    by_case : (t : Bool) → same_end kept (end_stated stated) ≡ t → end_answer b s (place_stated stated) (end_stated stated) (cond t Same Other) ≡ Refused Reused
    by_case true is = absurd (other (sym (same_end_is kept (end_stated stated) is)))
    by_case false is = refl
