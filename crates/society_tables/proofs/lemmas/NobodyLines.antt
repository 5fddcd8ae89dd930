-- A sender of whom a book has nothing has no line.
use Rattle.std.proofs.Common.{◌≡◌, ◌||◌, ℕ, Bool, true, false, cond, List, [], ◌∷◌, ap, bytes_eq, filter, map, refl, sym}
use Rattle.std.specs.FinMap as finite
use Rattle.std.specs.List.{list_any}
use Rattle.std.proofs.lemmas.Bool.{false≢true}
use Rattle.society_core.specs.Book.{Book, is_one_of, line, numbers_led_through}
use Rattle.society_core.specs.declared.transmission_key.TransmissionKey.{TransmissionKey}
use Rattle.society_book.specs.DerivedRows.{has_sent, has_stated, knows_sender}

-- of a list of which nothing passes nothing is kept
pub none_kept : {X : Type 0} (p : X → Bool) (xs : List X) → list_any p xs ≡ false → filter p xs ≡ []
none_kept p [] h = refl
none_kept p (x ∷ xs) h = by_case (p x) refl h (none_kept p xs)
  where
    by_case : (b : Bool) → p x ≡ b → (b || list_any p xs) ≡ false → (list_any p xs ≡ false → filter p xs ≡ []) → cond b (x ∷ filter p xs) (filter p xs) ≡ []
    by_case true is h later = absurd (false≢true (sym h))
    by_case false is h later = later h

not_first : (x y : Bool) → (x || y) ≡ false → x ≡ false
not_first false y h = refl
not_first true y h = absurd (false≢true (sym h))

pub line_of_nobody : (b : Book) (s : List ℕ) → knows_sender b s ≡ false → line b s ≡ []
unfolding line
line_of_nobody b s h =
    ap (λ (keys : List TransmissionKey). filter (is_one_of (numbers_led_through b s)) (map (λ key. key.number) keys))
    (none_kept (λ (key : TransmissionKey). bytes_eq key.sender s) (finite.keys b.transmissions) (not_first (has_sent b s) (has_stated b s) h))
