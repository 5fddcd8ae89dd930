-- A book to which a transmission has come, or an end of a segment: where the run begins with which its sender's line goes on.
use Rattle.std.proofs.Common.{◌≡◌, ◌∙◌, ◌<◌, ◌≤◌, ◌+◌, ◌==◌, ◌&&◌, ◌++◌, ℕ, Bool, true, false, cond, List, [], ◌∷◌, Option, Some, None, is_none, is_some, nat_le, nat_lt, append-nil, bytes_eq, refl, ap, ap₂, sym, subst, arith, unwrap_or}
use Rattle.std.specs.FinMap as finite
use Rattle.std.proofs.lemmas.Bool.{false_from_ne_true, false≢true, le-ltb, leb-true, lt-ltb}
use Rattle.std.proofs.lemmas.Bool.Decides.{Decides-eqb}
use Rattle.std.proofs.lemmas.Slice.Eq.{bytes_eq-Decides}
use Rattle.cwr_files.specs.FileFault.{file_fault}
use Rattle.share_rules.specs.declared.office.Office.{Office}
use Rattle.sender_segments.specs.Ascends.{Ascends}
use Rattle.sender_segments.specs.Ways.{AreRight, End, IsWithinEnd, is_reached, numbers_up_to}
use Rattle.sender_segments.proofs.lemmas.LedTo.{one_in_middle}
use Rattle.sender_segments.proofs.lemmas.Members.{stands}
use Rattle.sender_segments.proofs.lemmas.Ranks.{room_before}
use Rattle.sender_segments.proofs.lemmas.Reached.{leads_of, next_numbers, next_reached}
use Rattle.society_core.specs.Book.{AreOrderly, Book, IsSound, body_at, end_at, ends_of, front, is_in_line, is_one_of, is_there, with_end, with_transmission}
use Rattle.society_core.specs.Growth.{GoesOn}
use Rattle.society_core.specs.Keys.{segment_key, transmission_key}
use Rattle.society_core.specs.Orders.{same_transmission_key}
use Rattle.society_core.specs.declared.transmission_key.TransmissionKey.{TransmissionKey}
use Rattle.society_core.proofs.lemmas.Books.{sound_order, taken_order}
use Rattle.society_core.proofs.lemmas.Fronts.{first_holds, front_gap, front_led, front_only, front_reaches, second_holds}
use Rattle.society_core.proofs.lemmas.GrowthLemmas.{comes_in}
use Rattle.society_core.proofs.lemmas.HeadlineLemmas.{is_not_ended}
use Rattle.society_core.proofs.lemmas.KeptFronts.{stated_reaches, taken_reaches}
use Rattle.society_core.proofs.lemmas.KeyOrders.{transmissions_total}
use Rattle.society_core.proofs.lemmas.LineNumbers.{ascends_within, in_line_is, there_in_line}
use Rattle.society_arrivals.specs.Arriving.{GoesOnTo, MayCome}
use Rattle.society_arrivals.specs.Going.{ComesTo, ComesToGap}
use Rattle.society_arrivals.specs.Runs.{RunValue, notes_in}
use Rattle.society_book.proofs.lemmas.rows_alike.BookLemmas.{transmissions_tie}
use Rattle.society_book.proofs.lemmas.rows_alike.KeyRows.{both_same}
use Rattle.work_ids.specs.SenderKey.{is_sender_key}
use Rattle.work_ids.specs.Segments.{is_transmission_number, most_in, segment_of, sequence_of}

-- keys of transmissions that are the same are one
pub same_key_is : (a b : TransmissionKey) → same_transmission_key a b ≡ true → a ≡ b
same_key_is a b h =
    let name : a.sender ≡ b.sender = (bytes_eq-Decides a.sender b.sender).0 (first_holds (bytes_eq a.sender b.sender) (a.number == b.number) h) in
    let number : a.number ≡ b.number = (Decides-eqb a.number b.number).0 (second_holds (bytes_eq a.sender b.sender) (a.number == b.number) h) in
    ap₂ transmission_key name number

-- what a book with a transmission more has under a key
pub told_after : (b : Book) (s : List ℕ) (n : ℕ) (body t : List ℕ) (m : ℕ) → body_at (with_transmission b s n body) t m ≡ cond (same_transmission_key (transmission_key t m) (transmission_key s n)) (Some body) (body_at b t m)
told_after b s n body t m =
    finite.get-insert transmissions_total b.transmissions (transmission_key s n) body (transmission_key t m)
    ∙ ap (λ x. cond x (Some body) (body_at b t m)) (transmissions_tie (transmission_key t m) (transmission_key s n))

-- under its own number the transmission itself
pub told_own : (b : Book) (s : List ℕ) (n : ℕ) (body : List ℕ) → body_at (with_transmission b s n body) s n ≡ Some body
told_own b s n body = told_after b s n body s n ∙ ap (λ x. cond x (Some body) (body_at b s n)) (both_same s n)

-- under another number what was there
pub told_other : (b : Book) (s : List ℕ) (n : ℕ) (body : List ℕ) (k : ℕ) → (k ≡ n → ⊥) → body_at (with_transmission b s n body) s k ≡ body_at b s k
told_other b s n body k apart = told_after b s n body s k ∙ by_case (same_transmission_key (transmission_key s k) (transmission_key s n)) refl
  where
    by_case : (x : Bool) → same_transmission_key (transmission_key s k) (transmission_key s n) ≡ x → cond x (Some body) (body_at b s k) ≡ body_at b s k
    by_case false is = refl
    by_case true is = absurd (apart (ap (λ (key : TransmissionKey). key.number) (same_key_is (transmission_key s k) (transmission_key s n) is)))

-- numbers above one that ascend up to it are none
none_between : (f : ℕ) (more : List ℕ) → Ascends f more f → more ≡ []
none_between f [] rise = refl
none_between f (m ∷ more) rise = let first = rise.0 in let rest = ascends_within m f more rise.1 in absurd (omega (arith, first, rest))

-- no run, at a front
abbrev pub no_run : Office → ℕ → RunValue
no_run o f = record { office = o; reached = f; notes = [] }

-- the run of one transmission
abbrev pub first_run : Office → ℕ → List ℕ → RunValue
first_run o n body = record { office = o; reached = n; notes = notes_in o n body ∷ [] }

module _ (b : Book) (s : List ℕ) (n : ℕ) (body : List ℕ) (sound : IsSound b) (may : MayCome b s n body) where
  abbrev pub next : Book
  next = with_transmission b s n body

  -- its number is within the end of its segment
  pub fits : IsWithinEnd (ends_of b s) n
  fits = is_not_ended (sequence_of n) (end_at b s (segment_of n)) may.within

  pub next_order : (t : List ℕ) → AreOrderly next.transmissions next.ends t
  next_order = taken_order b s n body sound may.free may.entry fits

  -- the line of its sender goes on, which may be by none
  pub next_goes : (more : List ℕ) × GoesOn b next s more
  next_goes = comes_in b s n body sound may.free may.entry fits

  right : AreRight (ends_of b s)
  right = (sound_order b sound s).right

  still : is_reached (is_there next s) (ends_of b s) (front b s) ≡ true
  still = taken_reaches b.transmissions b.ends (transmission_key s n) body may.free

  some : 1 ≤ sequence_of n
  some =
      leb-true 1 (sequence_of n)
      (first_holds (nat_le 1 (sequence_of n)) (nat_le (segment_of n) 100)
      (second_holds (is_sender_key s) (is_transmission_number n) (first_holds (is_sender_key s && is_transmission_number n) (is_none (file_fault s body)) may.entry)))

  -- where it is not the next one, its sender's front stays
  held_front : (n ≡ front b s + 1 → ⊥) → front next s ≡ front b s
  held_front apart =
      let gap = front_gap b.transmissions b.ends s (sound_order b sound s) in
      sym (front_only next.transmissions next.ends s right (front b s) still
      (record { missing = ap is_some (told_other b s n body (front b s + 1) (λ is. apart (sym is))) ∙ gap.missing; before_end = gap.before_end }))

  -- and its number is not in the line
  pub held_goes : (o : Office) → (n ≡ front b s + 1 → ⊥) → GoesOnTo o b next s (no_run o (front b s)) × (is_in_line next s n ≡ nat_lt (front b s) (front b s))
  held_goes o apart =
      let stays = held_front apart in
      let none = none_between (front b s) next_goes.0 (subst (λ (f : ℕ). Ascends (front b s) next_goes.0 f) stays next_goes.1.rises) in
      let goes = subst (λ (more : List ℕ). GoesOn b next s more) none next_goes.1 in (
        record { goes = record { goes = goes; each = tt }; reached = sym stays },
        ap (λ (ns : List ℕ). is_one_of ns n) (goes.grown ∙ append-nil _) ∙ outside ∙ sym (le-ltb (front b s) (front b s) (omega arith)),
      )
    where
      outside : is_in_line b s n ≡ false
      outside = false_from_ne_true (is_in_line b s n) (λ is. false≢true (sym (ap is_some may.free) ∙ there_in_line b s n is))

  module _ (is : n ≡ front b s + 1) where
    room : sequence_of (front b s) < most_in (segment_of (front b s))
    room = room_before (front b s) (subst (λ (k : ℕ). 1 ≤ sequence_of k) is some)

    reaches : is_reached (is_there next s) (ends_of b s) n ≡ true
    reaches =
        subst (λ (k : ℕ). is_reached (is_there next s) (ends_of b s) k ≡ true) (sym is)
        (next_reached (ends_of b s) right (is_there next s) (front b s) room still (subst (λ (k : ℕ). is_there next s k ≡ true) is (ap is_some (told_own b s n body))))

    -- with the next one a run begins with it
    pub next_comes : (o : Office) → ComesTo o next s (front b s) (first_run o n body)
    next_comes o = record {
      its = refl;
      reached = reaches;
      numbers = subst (λ (k : ℕ). numbers_up_to (ends_of b s) k ≡ numbers_up_to (ends_of b s) (front b s) ++ k ∷ []) (sym is) (next_numbers (ends_of b s) right (front b s) room);
      each = (ap (λ (kept : Option (List ℕ)). notes_in o n (unwrap_or kept [])) (sym (told_own b s n body)), tt);
    }

    -- and it is in the line, whose front goes on
    pub next_applied : (reached : ℕ) → reached ≡ front next s → is_in_line next s n ≡ nat_lt (front b s) reached
    next_applied reached at =
        let to = front_reaches next.transmissions next.ends s right n reaches in
        let stand = stands (ends_of b s) right (front next s) n (front_led next.transmissions next.ends s) (record { leads = leads_of (ends_of b s) right (is_there next s) n reaches; some = some }) to fits in
        in_line_is next s n
        ∙ ap (λ (ns : List ℕ). is_one_of ns n) stand.2
        ∙ one_in_middle stand.0 stand.1 n
        ∙ sym (lt-ltb (front b s) reached (omega (arith, to, is, at)))

-- with an end that comes a run begins at the front
pub stated_comes : (o : Office) (b : Book) (s : List ℕ) (g : ℕ) (end : End) → IsSound b → end_at b s g ≡ None → ComesToGap o (with_end b s g end) s (front b s) (no_run o (front b s))
stated_comes o b s g end sound free = record {
  comes = record {
    its = refl;
    reached = stated_reaches b.transmissions b.ends (segment_key s g) end free;
    numbers = sym (append-nil (numbers_up_to (ends_of (with_end b s g end) s) (front b s)));
    each = tt;
  };
  missing = (front_gap b.transmissions b.ends s (sound_order b sound s)).missing;
}
