-- What the row of a sender's front shows.
use Rattle.std.proofs.Common.{◌≡◌, ◌∙◌, ◌≤◌, ◌<◌, ◌^◌, inl, inr, ℕ, pos, Bool, true, false, cond, List, [], ◌∷◌, Option, Some, None, ap, arith, get_or, length, refl, sym}
use Rattle.std.specs.List.{AllByRecursion}
use Rattle.share_rules.specs.declared.office.Office.{Office}
use Rattle.sqlite_trees.specs.Tree.{Trees}
use Rattle.sqlite_value.specs.declared.value.Value.TheVariants.{Int, Text}
use Rattle.sqlite_value.specs.Order.{Row, column}
use Rattle.society_core.proofs.lemmas.Books.{sound_front}
use Rattle.society_core.specs.Book.{Book, IsSound, ends_of, front}
use Rattle.society_core.proofs.lemmas.Fronts.{front_only}
use Rattle.sender_segments.specs.Ways.{AreRight, End}
use Rattle.society_book.proofs.lemmas.lines.KnownSenders.{nothing_sent, nothing_stated}
use Rattle.society_rows.specs.Layout as layout
use Rattle.society_rows.specs.Reads.{Lists, has_key}
use Rattle.society_book.specs.DerivedRows.{front_rows, knows_sender, works_to}
use Rattle.society_book.specs.Kept.{HoldsBook}
use Rattle.society_book.specs.Shown.{ShowFront}
use Rattle.society_book.proofs.lemmas.rows_alike.NamedRows.{HasName, found_by_name, one_or_none}

none_some : (x : End) → ◌≡◌ {A = Option End} None (Some x) → ⊥
none_some x e = cc

-- no end of a sender of whom a book has nothing is wrong
pub nobody_right : (b : Book) (s : List ℕ) → knows_sender b s ≡ false → AreRight (ends_of b s)
nobody_right b s h = record { within = λ g end is. absurd (none_some end (sym (nothing_stated b s h g) ∙ is)); later = λ g end is. absurd (none_some end (sym (nothing_stated b s h g) ∙ is)) }

-- a sender of whom a book has nothing has the front 0
pub front_of_nobody : (b : Book) (s : List ℕ) → knows_sender b s ≡ false → front b s ≡ 0
front_of_nobody b s h =
    sym (front_only b.transmissions b.ends s (nobody_right b s h) 0 refl
    (record { missing = nothing_sent b s h 1; before_end = λ end is. absurd (none_some end (sym (nothing_stated b s h 0) ∙ is)) }))

pub fronts_named : (o : Office) (b : Book) (s : List ℕ) → AllByRecursion HasName (front_rows o b s)
fronts_named o b s = elim (knows_sender b s) as (λ x. AllByRecursion HasName (cond x ((Text s ∷ Int (pos (front b s)) ∷ Int (pos (works_to o b s)) ∷ []) ∷ []) [])) [ true ↦ (refl, tt) | false ↦ tt ]

-- what is found of a sender's front shows it
pub front_found : (o : Office) (b : Book) (db : Trees) → HoldsBook o b db → (s : List ℕ) (found : List Row) → Lists layout.fronts (has_key (Text s ∷ [])) 1 db found → ShowFront (front b s) found
front_found o b db holds s found lists =
    shows (knows_sender b s) refl (one_or_none (knows_sender b s) (Text s ∷ Int (pos (front b s)) ∷ Int (pos (works_to o b s)) ∷ []) found (found_by_name layout.fronts (front_rows o b) 1 db found s holds.derived.fronts (fronts_named o b) lists))
  where
    shows : (x : Bool) → knows_sender b s ≡ x → found ≡ cond x ((Text s ∷ Int (pos (front b s)) ∷ Int (pos (works_to o b s)) ∷ []) ∷ []) [] → ShowFront (front b s) found
    shows true is e = inr (s, pos (works_to o b s), e)
    shows false is e = inl (e, front_of_nobody b s is)

-- it is a number of 32 bits
pub small_front : (b : Book) (s : List ℕ) → IsSound b → front b s < 2 ^ 32
small_front b s sound = let high = sound_front b s sound in omega (high, arith)

-- no row, one, or more
pub none_shown : (n : ℕ) (rows : List Row) → ShowFront n rows → length rows ≡ 0 → 0 ≡ n
none_shown n rows (inl none) short = sym none.1
none_shown n rows (inr one) short = absurd (let l = ap length one.2 in omega (arith, l, short))

pub one_shown : (n : ℕ) (rows : List Row) (row : Row) → ShowFront n rows → length rows ≡ 1 → row ≡ get_or rows 0 row → column row 1 ≡ Int (pos n)
one_shown n rows row (inl none) long is = absurd (let l = ap length none.0 in omega (arith, l, long))
one_shown n rows row (inr one) long is = ap (λ (r : Row). column r 1) (is ∙ ap (λ (l : List Row). get_or l 0 row) one.2)

pub few_shown : (n : ℕ) (rows : List Row) → ShowFront n rows → length rows ≤ 1
few_shown n rows (inl none) = let l = ap length none.0 in omega (arith, l)
few_shown n rows (inr one) = let l = ap length one.2 in omega (arith, l)
