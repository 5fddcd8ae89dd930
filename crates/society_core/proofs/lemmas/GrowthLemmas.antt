-- What holds of two books where a sender's line goes on from one to the other, and that a transmission or an end which comes lets it go on.
use Rattle.std.proofs.Common.{◌≡◌, ◌≢◌, ℕ, ◌≤◌, ◌++◌, append-nil, Bool, true, false, List, None, bytes_eq, filter, nat_le, refl, ap, sym, subst, ◌∙◌, arith}
use Rattle.std.specs.FinMap as finite
use Rattle.std.proofs.lemmas.Bool.{false≢true}
use Rattle.std.proofs.lemmas.List.Elements.{filter-append}
use Rattle.std.proofs.lemmas.Slice.Eq.{bytes_eq-Decides}
use Rattle.sender_segments.specs.Ways.{AreRight, End, IsWithinEnd, numbers_up_to}
use Rattle.society_core.specs.Book.{Book, IsSound, body_at, end_at, ends_of, front, is_end_entry, is_entry, is_in_line, line, numbers_to, transmissions_to, with_end, with_transmission}
use Rattle.society_core.specs.Growth.{GoesOn}
use Rattle.society_core.specs.Headline.{AlikeToTheGap}
use Rattle.society_core.proofs.lemmas.Books.{AllBelow, added_keeps, some_body, sound_order, stated_grows, taken_grows, taken_order}
use Rattle.society_core.proofs.lemmas.ClosedPools.{PaysAlike}
use Rattle.society_core.proofs.lemmas.Gaps.{alike_over}
use Rattle.society_core.proofs.lemmas.KeptFronts.{other_end_front, other_front}
use Rattle.society_core.proofs.lemmas.LineNumbers.{in_line_of_to, in_line_within, line_is, none_up_to, there_in_line}

module _ (a b : Book) (s : List ℕ) (more : List ℕ) (goes : GoesOn a b s more) where
  -- another sender's front stays
  pub front_stays : (t : List ℕ) → t ≢ s → front b t ≡ front a t
  front_stays t other = sym (goes.others t other).same_front

  either_sender : (P : List ℕ → Type 0) → P s → ((t : List ℕ) → AlikeToTheGap a b t → P t) → (t : List ℕ) → P t
  either_sender P its other t = by_case (bytes_eq t s) refl
    where
      by_case : (c : Bool) → bytes_eq t s ≡ c → P t
      by_case true is = subst P (sym ((bytes_eq-Decides t s).0 is)) its
      by_case false is = other t (goes.others t (λ same. false≢true (sym is ∙ (bytes_eq-Decides t s).1 same)))

  -- with its body
  pub body_stays : (t : List ℕ) (n : ℕ) → is_in_line a t n ≡ true → body_at b t n ≡ body_at a t n
  body_stays t n =
      either_sender (λ q. is_in_line a q n ≡ true → body_at b q n ≡ body_at a q n)
      (λ h. goes.bodies n h)
      (λ q alike h. sym (alike.same_bodies n h)) t

  -- the numbers up to one that is not above the front stay
  pub numbers_stay : (t : List ℕ) (n : ℕ) → n ≤ front a t → numbers_to b t n ≡ numbers_to a t n
  numbers_stay t n =
      either_sender (λ q. n ≤ front a q → numbers_to b q n ≡ numbers_to a q n)
      (λ le. ap (filter (λ m. nat_le m n)) goes.grown
      ∙ filter-append (λ m. nat_le m n) (line a s) more
      ∙ ap (λ (l : List ℕ). numbers_to a s n ++ l) (none_up_to (front a s) (front b s) n more goes.rises le)
      ∙ append-nil (numbers_to a s n))
      (λ q alike le. ap (filter (λ m. nat_le m n)) (sym alike.same_line)) t

  -- and so do the transmissions
  pub sent_to_stays : (t : List ℕ) (n : ℕ) → n ≤ front a t → transmissions_to b t n ≡ transmissions_to a t n
  sent_to_stays t n le =
      ap (λ (ns : List ℕ). Rattle.std.proofs.Common.map (Rattle.society_core.specs.Book.sent_under b t) ns) (numbers_stay t n le)
      ∙ alike_over b a t (numbers_to a t n) (λ k one. body_stays t k (in_line_of_to a t n k one))

  -- those of the whole line too
  pub line_stays : (t : List ℕ) → transmissions_to b t (front a t) ≡ transmissions_to a t (front a t)
  line_stays t = sent_to_stays t (front a t) (omega arith)

  module _ (right : (t : List ℕ) → AreRight (ends_of a t)) where
    -- and those up to a number of the line
    pub sent_stays : (t : List ℕ) (n : ℕ) → is_in_line a t n ≡ true → transmissions_to b t n ≡ transmissions_to a t n
    sent_stays t n h = sent_to_stays t n (in_line_within a t (right t) n h)

    -- and what the pools of the first pay
    pub growth_pays : PaysAlike a b
    growth_pays = record {
      sent = λ t n is. sym (sent_stays t n is);
      returned = λ key there. ap (λ m. finite.get m key) (sym goes.returns);
    }

-- a transmission that comes under a free number lets its sender's line go on
pub comes_in : (b : Book) (s : List ℕ) (n : ℕ) (body : List ℕ) → IsSound b → body_at b s n ≡ None → is_entry s n body ≡ true → IsWithinEnd (ends_of b s) n
    → (more : List ℕ) × GoesOn b (with_transmission b s n body) s more
comes_in b s n body sound free entry fits =
    let grows = taken_grows b s n body sound free entry fits s in (
      grows.more,
      record {
        grown = grows.is;
        rises = grows.rises;
        bodies = λ k is. still s k is;
        others = λ t apart.
            let same = other_front b s n body sound free entry fits t apart in
            record {
              same_front = same;
              same_line =
                  line_is b t (sound_order b sound t).right ∙ ap (λ (f : ℕ). numbers_up_to (ends_of b t) f) same
                  ∙ sym (line_is (with_transmission b s n body) t (taken_order b s n body sound free entry fits t).right);
              same_bodies = λ k is. sym (still t k is);
            };
        returns = refl;
        pools = refl;
      },
    )
  where
    still : (t : List ℕ) (k : ℕ) → is_in_line b t k ≡ true → body_at (with_transmission b s n body) t k ≡ body_at b t k
    still t k is =
        let found = some_body (body_at b t k) (there_in_line b t k is) in
        added_keeps b s n body free t k found.0 found.1 ∙ sym found.1

-- and so does an end that comes of a segment without one
pub is_stated : (b : Book) (s : List ℕ) (g : ℕ) (end : End) → IsSound b → end_at b s g ≡ None → is_end_entry s g end ≡ true → AllBelow b s g end
    → (more : List ℕ) × GoesOn b (with_end b s g end) s more
is_stated b s g end sound free entry below =
    let grows = stated_grows b s g end sound free entry below s in (
      grows.more,
      record {
        grown = grows.is;
        rises = grows.rises;
        bodies = λ k is. refl;
        others = λ t apart.
            let same = other_end_front b s g end sound free entry below t apart in
            record { same_front = same.0; same_line = same.1; same_bodies = λ k is. refl };
        returns = refl;
        pools = refl;
      },
    )
