-- What the rows of a transmission's verdicts show.
use Rattle.std.proofs.Common.{◌≡◌, ◌∙◌, ◌+◌, ◌&&◌, ◌==◌, ℕ, suc, zero, pos, Bool, true, false, cond, List, [], ◌∷◌, Some, None, length, refl, ap, sym, subst, arith, map, filter, IsPermutation, unwrap_or, Less, ne_eqb}
use Rattle.std.specs.List.{AllByRecursion, enumerate_from, flat_map}
use Rattle.std.proofs.lemmas.Slice.Eq.{bytes_eq-Decides}
use Rattle.cwr_files.specs.Contents.{transactions_of, transmission_in}
use Rattle.cwr_files.specs.declared.transmission.Transaction.{Transaction}
use Rattle.share_rules.specs.declared.office.Office.{Office}
use Rattle.sqlite_keyed.proofs.ListLemmas.{all-flat_map, all_of}
use Rattle.sqlite_sql.specs.Query.{key_cmp}
use Rattle.sqlite_trees.specs.Tree.{IsAscending, Trees}
use Rattle.sqlite_value.specs.Keys.{rising}
use Rattle.sqlite_value.specs.declared.value.Value.TheVariants.{Int, Text}
use Rattle.sqlite_value.specs.Order.{Row, column}
use Rattle.society_core.proofs.lemmas.Books.{sound_order}
use Rattle.society_core.proofs.lemmas.CandidateLemmas.{verdicts_counted_in}
use Rattle.society_core.proofs.lemmas.LineNumbers.{line_rises_to, one_of_own}
use Rattle.society_core.specs.Book.{Book, body_at, front, is_in_line, line, shown_verdicts, verdicts_in}
use Rattle.society_rows.specs.Layout as layout
use Rattle.society_rows.specs.Reads.{Lists, has_key}
use Rattle.society_book.specs.Columns.{whole_number_at, text_at}
use Rattle.society_book.specs.DerivedRows.{is_named, tells_verdict, told_by, told_from, told_to_front, verdict_row}
use Rattle.society_book.specs.Kept.{HoldsBook}
use Rattle.society_book.specs.Shown.{ShowVerdicts, verdict_in}
use Rattle.society_book.proofs.lemmas.rows_alike.KeyRows.{HasKeyForm, either_way, keyed}
use Rattle.society_book.proofs.lemmas.rows_alike.RowLemmas.{found_among, none_else}
use Rattle.society_book.proofs.lemmas.rows_alike.SortedRows.{is_numbered, lines_back, lines_rise, none_among, one_order, rises_third, those_of}
use Rattle.works_core.specs.declared.verdict.Verdict.{Verdict}
use Rattle.works_core.specs.declared.verdict.Verdict.TheVariants.{Accepted, Rejected}

-- the columns of a verdict's key
first_is : (s : List ℕ) (n p : ℕ) (v : Verdict) → column (verdict_row s n p v) 0 ≡ Text s
first_is s n p (Accepted ordinal revision) = refl
first_is s n p (Rejected fault) = refl

second_is : (s : List ℕ) (n p : ℕ) (v : Verdict) → column (verdict_row s n p v) 1 ≡ Int (pos n)
second_is s n p (Accepted ordinal revision) = refl
second_is s n p (Rejected fault) = refl

third_is : (s : List ℕ) (n p : ℕ) (v : Verdict) → column (verdict_row s n p v) 2 ≡ Int (pos p)
third_is s n p (Accepted ordinal revision) = refl
third_is s n p (Rejected fault) = refl

numbered_so : (s : List ℕ) (n p : ℕ) (v : Verdict) → whole_number_at 1 (verdict_row s n p v) ≡ n
numbered_so s n p (Accepted ordinal revision) = refl
numbered_so s n p (Rejected fault) = refl

formed_so : (s : List ℕ) (n p : ℕ) (v : Verdict) → HasKeyForm (verdict_row s n p v)
formed_so s n p (Accepted ordinal revision) = (refl, refl)
formed_so s n p (Rejected fault) = (refl, refl)

module _ (P : Row → Type 0) (s : List ℕ) (n : ℕ) (each : (p : ℕ) (v : Verdict) → P (verdict_row s n p v)) where
  all_told : (p : ℕ) (ts : List Transaction) (vs : List Verdict) → AllByRecursion P (told_from tells_verdict s n p ts vs)
  all_told p [] vs = tt
  all_told p (t ∷ ts) [] = tt
  all_told p (t ∷ ts) (v ∷ vs) = (each p v, all_told (p + 1) ts vs)

-- what a transmission tells is its verdicts at their places
told_lines : (s : List ℕ) (n p : ℕ) (ts : List Transaction) (vs : List Verdict) → length vs ≡ length ts → told_from tells_verdict s n p ts vs ≡ map (λ l. verdict_row s n l.0 l.1) (enumerate_from p vs)
told_lines s n p [] [] e = refl
told_lines s n p (t ∷ ts) [] e = absurd (omega (arith, e))
told_lines s n p [] (v ∷ vs) e = absurd (omega (arith, e))
told_lines s n p (t ∷ ts) (v ∷ vs) e = ap (λ l. verdict_row s n p v ∷ l) (told_lines s n (p + 1) ts vs (omega (arith, e)))

verdicts_rise : (s : List ℕ) (n p : ℕ) (vs : List Verdict) → IsAscending (λ a b. key_cmp 0 (rising 3 []) a b ≡ Less) (map (λ l. verdict_row s n l.0 l.1) (enumerate_from p vs))
verdicts_rise s n p vs =
    lines_rise (verdict_row s n) (λ a b. key_cmp 0 (rising 3 []) a b ≡ Less)
    (λ p q x y less. rises_third (verdict_row s n p x) (verdict_row s n q y) p q (first_is s n p x ∙ sym (first_is s n q y)) (second_is s n p x ∙ sym (second_is s n q y)) (third_is s n p x) (third_is s n q y) less)
    p vs

module _ (o : Office) (b : Book) (db : Trees) (holds : HoldsBook o b db) (s : List ℕ) (n : ℕ) where
  told_numbered : (k : ℕ) → AllByRecursion (λ row. whole_number_at 1 row ≡ k) (told_by tells_verdict o b s k)
  told_numbered k = all_told (λ row. whole_number_at 1 row ≡ k) s k (numbered_so s k) 0 (transactions_of (transmission_in (unwrap_or (body_at b s k) []))) (verdicts_in o b s k)

  formed_over : (q ns : List ℕ) → AllByRecursion HasKeyForm (flat_map (told_by tells_verdict o b q) ns)
  formed_over q ns =
      all-flat_map HasKeyForm (told_by tells_verdict o b q) ns
      (all_of _ (λ k. all_told HasKeyForm q k (formed_so q k) 0 (transactions_of (transmission_in (unwrap_or (body_at b q k) []))) (verdicts_in o b q k)) ns)

  -- what is found are the sender's rows with the number
  found_numbered : (found : List Row) → Lists layout.verdicts (has_key (Text s ∷ Int (pos n) ∷ [])) 3 db found → IsPermutation (filter (is_numbered n) (told_to_front tells_verdict o b s)) found
  found_numbered found lists =
      found_among HasKeyForm is_named (text_at 0) (λ r. (bytes_eq-Decides (text_at 0 r) (text_at 0 r)).1 refl) s (has_key (Text s ∷ Int (pos n) ∷ [])) (is_numbered n)
      (λ r form. keyed s n r form ∙ ap (λ x. x && n == whole_number_at 1 r) (either_way s (text_at 0 r)))
      layout.verdicts (told_to_front tells_verdict o b) db found holds.derived.verdicts (λ q. formed_over q (line b q)) lists.rows

  -- what is found of a transmission's verdicts shows them
  pub verdicts_found : (found : List Row) → Lists layout.verdicts (has_key (Text s ∷ Int (pos n) ∷ [])) 3 db found → ShowVerdicts (cond (is_in_line b s n) (verdicts_in o b s n) []) found
  verdicts_found found lists = by_case (is_in_line b s n) refl
    where
      by_case : (x : Bool) → is_in_line b s n ≡ x → ShowVerdicts (cond x (verdicts_in o b s n) []) found
      by_case false out = (s, n, none_else found (subst (λ l. IsPermutation l found) (none_among (told_by tells_verdict o b s) told_numbered n (line b s) out) (found_numbered found lists)))
      by_case true one =
          let rows : filter (is_numbered n) (told_to_front tells_verdict o b s) ≡ map (λ l. verdict_row s n l.0 l.1) (enumerate_from 0 (verdicts_in o b s n)) =
          those_of (told_by tells_verdict o b s) told_numbered n 0 (front b s) (line b s) (line_rises_to b s (sound_order b holds.sound s).right) one
          ∙ told_lines s n 0 (transactions_of (transmission_in (unwrap_or (body_at b s n) []))) (verdicts_in o b s n) (verdicts_counted_in o b s n n (one_of_own b s n one)) in
          (s, n, one_order 3 (map (λ l. verdict_row s n l.0 l.1) (enumerate_from 0 (verdicts_in o b s n))) found (verdicts_rise s n 0 (verdicts_in o b s n)) (subst (λ l. IsPermutation l found) rows (found_numbered found lists)) lists.sorted)

one_or_more : (n : ℕ) → (suc n == 0) ≡ false
one_or_more n = ne_eqb (suc n) 0 (λ e. absurd (omega arith))

of_some : (x y : Verdict) → Some y ≡ Some x → y ≡ x
of_some x y e = cc

-- a verdict that is read of its row is that verdict
verdict_back : (s : List ℕ) (n p : ℕ) (x y : Verdict) → Some y ≡ verdict_in (verdict_row s n p x) → y ≡ x
verdict_back s n p (Accepted zero revision) y e = absurd (cc)
verdict_back s n p (Accepted (suc ordinal) revision) y e =
    of_some (Accepted (suc ordinal) revision) y (e ∙ ap (λ (b : Bool). cond b None (Some (Accepted (suc ordinal) revision))) (one_or_more ordinal))
verdict_back s n p (Rejected zero) y e = absurd (cc)
verdict_back s n p (Rejected (suc fault)) y e =
    of_some (Rejected (suc fault)) y (e ∙ ap (λ (b : Bool). cond b (cond true None (Some (Accepted 0 0))) (Some (Rejected (suc fault)))) (one_or_more fault))

-- and so are all
pub verdicts_back : (vs list : List Verdict) (rows : List Row) → ShowVerdicts vs rows → map Some list ≡ map verdict_in rows → list ≡ vs
verdicts_back vs list rows shows e =
    lines_back (verdict_row shows.0 shows.1) verdict_in (λ _. Unit {0}) (λ p x y _ h. verdict_back shows.0 shows.1 p x y h) 0 vs list (all_of (λ _. Unit {0}) (λ _. tt) vs) (e ∙ ap (map verdict_in) shows.2)

-- what is listed of a number in the line is shown
pub shown_in_line : (o : Office) (b : Book) (s : List ℕ) (n : ℕ) (list : List Verdict) → list ≡ cond (is_in_line b s n) (verdicts_in o b s n) [] → is_in_line b s n ≡ true → Some list ≡ shown_verdicts o b s n
shown_in_line o b s n list e at =
    ap Some (e ∙ ap (λ (x : Bool). cond x (verdicts_in o b s n) []) at) ∙ sym (ap (λ (x : Bool). cond x (Some (verdicts_in o b s n)) None) at)
