-- What the row of a sender's front shows of how far it came.
use Rattle.std.proofs.Common.{◌≡◌, ◌∙◌, inl, inr, ℕ, pos, Bool, true, false, cond, List, [], ◌∷◌, filter, map, nat_le, refl, ap}
use Rattle.share_rules.specs.declared.office.Office.{Office}
use Rattle.sqlite_trees.specs.Tree.{Trees}
use Rattle.sqlite_value.specs.declared.value.Value.TheVariants.{Int, Text}
use Rattle.sqlite_value.specs.Order.{Row}
use Rattle.society_core.specs.Book.{Book, ends_of, front, line, sent_under}
use Rattle.sender_segments.specs.Ways.{numbers_up_to}
use Rattle.society_core.proofs.lemmas.LineNumbers.{line_is}
use Rattle.society_rows.specs.Layout as layout
use Rattle.society_rows.specs.Reads.{Lists, has_key}
use Rattle.society_book.specs.DerivedRows.{front_rows, knows_sender, works_to}
use Rattle.society_book.specs.Kept.{HoldsBook}
use Rattle.society_arrivals.specs.Arrivals.{ShowReached}
use Rattle.society_book.proofs.lemmas.rows_alike.NamedRows.{found_by_name, one_or_none}
use Rattle.works_core.specs.Line.{line_of}
use Rattle.works_core.specs.Verdicts.{works_in}
use Rattle.works_core.specs.Versions.{judged_of, placed_line}
use Rattle.society_book.proofs.lemmas.shown.FrontRows.{front_of_nobody, fronts_named, nobody_right}

-- nor has it a line
line_of_nobody : (b : Book) (s : List ℕ) → knows_sender b s ≡ false → line b s ≡ []
line_of_nobody b s h = line_is b s (nobody_right b s h) ∙ ap (numbers_up_to (ends_of b s)) (front_of_nobody b s h)

-- nor has it works
works_of_nobody : (o : Office) (b : Book) (s : List ℕ) → knows_sender b s ≡ false → works_to o b s ≡ 0
works_of_nobody o b s h = ap (λ (ns : List ℕ). works_in (judged_of (placed_line (line_of o (map (sent_under b s) (filter (λ m. nat_le m (front b s)) ns)))))) (line_of_nobody b s h)

-- what is found of a sender's front shows how far it came
pub reached_found : (o : Office) (b : Book) (db : Trees) → HoldsBook o b db → (s : List ℕ) (found : List Row) → Lists layout.fronts (has_key (Text s ∷ [])) 1 db found → ShowReached (front b s) (works_to o b s) found
reached_found o b db holds s found lists =
    shows (knows_sender b s) refl (one_or_none (knows_sender b s) (Text s ∷ Int (pos (front b s)) ∷ Int (pos (works_to o b s)) ∷ []) found (found_by_name layout.fronts (front_rows o b) 1 db found s holds.derived.fronts (fronts_named o b) lists))
  where
    shows : (x : Bool) → knows_sender b s ≡ x → found ≡ cond x ((Text s ∷ Int (pos (front b s)) ∷ Int (pos (works_to o b s)) ∷ []) ∷ []) [] → ShowReached (front b s) (works_to o b s) found
    shows true is e = inr (s, e)
    shows false is e = inl (e, front_of_nobody b s is, works_of_nobody o b s is)
