-- What is judged of a sender's transmissions under some numbers.
use Rattle.std.proofs.Common.{◌≡◌, ◌⊎◌, inl, inr, ℕ, ◌<◌, ◌≤◌, ◌==◌, ◌||◌, Bool, true, false, cond, List, [], ◌∷◌, ◌++◌, filter, map, nat_le, unwrap_or, refl, sym, ap, ◌∙◌, arith}
use Rattle.std.proofs.lemmas.List.{map_push}
use Rattle.cwr_files.specs.Contents.{transmission_in}
use Rattle.share_rules.specs.declared.office.Office.{Office}
use Rattle.works_core.specs.Line.{NumberedTransmission, judged_in, line_of}
use Rattle.works_core.specs.Versions.{last_version, placed_line, work_at}
use Rattle.works_core.proofs.lemmas.NumberLemmas.{up_to_all}
use Rattle.works_core.specs.Numbered.{IsRising, JudgedTransmission, has_number, last_number, up_to}
use Rattle.sender_segments.specs.Ascends.{Ascends}
use Rattle.sender_segments.specs.Ways.{AreRight}
use Rattle.society_core.specs.Book.{Book, body_at, ends_of, front, is_in_line, is_one_of, numbers_to, sent_under, transmissions_to}
use Rattle.society_core.proofs.lemmas.LineNumbers.{in_line_of_to, in_line_within, is_first, is_later, numbers_rise_to, one_of_own}

module _ (o : Office) (b : Book) (s : List ℕ) where
  -- what is judged of a sender's transmission, under its number
  abbrev pub judged_under : ℕ → JudgedTransmission
  judged_under n = record { number = n; judged = judged_in o (transmission_in (unwrap_or (body_at b s n) [])) }

  -- what is judged of those under some numbers
  abbrev pub line_over : List ℕ → List JudgedTransmission
  line_over ns = line_of o (map (sent_under b s) ns)

  -- the line up to a number
  abbrev pub line_to : ℕ → List JudgedTransmission
  line_to n = line_of o (transmissions_to b s n)

  -- one number more
  pub over_push : (ns : List ℕ) (n : ℕ) → line_over (ns ++ n ∷ []) ≡ line_over ns ++ judged_under n ∷ []
  over_push ns n =
      ap (line_of o) (map_push (sent_under b s) ns n)
      ∙ map_push (λ (t : NumberedTransmission). record { number = t.0; judged = judged_in o t.1 }) (map (sent_under b s) ns) (sent_under b s n)

  -- numbers that ascend make a line that rises
  pub over_rises : (low high : ℕ) (ns : List ℕ) → Ascends low ns high → IsRising low (line_over ns)
  over_rises low high [] rise = tt
  over_rises low high (n ∷ ns) rise = (rise.0, over_rises n high ns rise.1)

  -- it has these numbers
  pub over_has : (ns : List ℕ) (k : ℕ) → has_number k (line_over ns) ≡ is_one_of ns k
  over_has [] k = refl
  over_has (n ∷ ns) k = ap (λ (r : Bool). (n == k) || r) (over_has ns k)

  -- its part up to a number is that of the numbers up to it
  pub over_up_to : (cut : ℕ) (ns : List ℕ) → up_to cut (line_over ns) ≡ line_over (filter (λ m. nat_le m cut) ns)
  over_up_to cut [] = refl
  over_up_to cut (n ∷ ns) = by_case (nat_le n cut) (over_up_to cut ns)
    where
      by_case : (t : Bool) → up_to cut (line_over ns) ≡ line_over (filter (λ m. nat_le m cut) ns) → cond t (judged_under n ∷ up_to cut (line_over ns)) (up_to cut (line_over ns)) ≡ line_over (cond t (n ∷ filter (λ m. nat_le m cut) ns) (filter (λ m. nat_le m cut) ns))
      by_case true same = ap (λ (l : List JudgedTransmission). judged_under n ∷ l) same
      by_case false same = same

  -- its last number is one of them
  pub over_last : (other : ℕ) (ns : List ℕ) → ((ns ≡ []) × (last_number other (line_over ns) ≡ other)) ⊎ (is_one_of ns (last_number other (line_over ns)) ≡ true)
  over_last other [] = inl (refl, refl)
  over_last other (n ∷ ns) = by_rest (over_last n ns)
    where
      by_rest : ((ns ≡ []) × (last_number n (line_over ns) ≡ n)) ⊎ (is_one_of ns (last_number n (line_over ns)) ≡ true) → ((n ∷ ns ≡ []) × (last_number n (line_over ns) ≡ other)) ⊎ (is_one_of (n ∷ ns) (last_number n (line_over ns)) ≡ true)
      by_rest (inl none) = inr (ap (λ (k : ℕ). is_one_of (n ∷ ns) k) none.1 ∙ is_first n ns)
      by_rest (inr one) = inr (is_later n (last_number n (line_over ns)) ns one)

  -- the last number of those before one that ascend is below it
  pub over_below : (low high : ℕ) (ns more : List ℕ) (n : ℕ) → Ascends low (ns ++ n ∷ more) high → last_number low (line_over ns) < n
  over_below low high [] more n rise = rise.0
  over_below low high (m ∷ ns) more n rise = over_below m high ns more n rise.1

  -- the line up to one of its numbers has it
  pub line_has_own : (n : ℕ) → is_in_line b s n ≡ true → has_number n (line_to n) ≡ true
  line_has_own n h = over_has (numbers_to b s n) n ∙ one_of_own b s n h

  -- and each of those up to it
  pub line_has_one : (n k : ℕ) → is_one_of (numbers_to b s n) k ≡ true → has_number k (line_to n) ≡ true
  line_has_one n k h = over_has (numbers_to b s n) k ∙ h

  -- its numbers rise
  pub line_rises : AreRight (ends_of b s) → (n : ℕ) → IsRising 0 (line_to n)
  line_rises right n = over_rises 0 (front b s) (numbers_to b s n) (numbers_rise_to b s right n)

-- cuts that are not below the last number show the same versions
pub versions_at_end : (line : List JudgedTransmission) (work : List ℕ) (a b : ℕ) → IsRising 0 line → last_number 0 line ≤ a → last_number 0 line ≤ b → work_at line work a ≡ work_at line work b
unfolding work_at
versions_at_end line work a b rises low high =
    ap (λ (l : List JudgedTransmission). last_version work (placed_line l)) (up_to_all 0 a line rises low ∙ sym (up_to_all 0 b line rises high))

-- the last number of a sound book's line up to its front is that of a transmission, or there is none
module _ (o : Office) (b : Book) (s : List ℕ) (right : AreRight (ends_of b s)) where
  abbrev whole : List JudgedTransmission
  whole = line_to o b s (front b s)

  pub last_in_line : (is_one_of (numbers_to b s (front b s)) (last_number 0 whole) ≡ true) ⊎ (whole ≡ [])
  last_in_line = by_last (over_last o b s 0 (numbers_to b s (front b s)))
    where
      by_last : ((numbers_to b s (front b s) ≡ []) × (last_number 0 whole ≡ 0)) ⊎ (is_one_of (numbers_to b s (front b s)) (last_number 0 whole) ≡ true) → (is_one_of (numbers_to b s (front b s)) (last_number 0 whole) ≡ true) ⊎ (whole ≡ [])
      by_last (inl none) = inr (ap (line_over o b s) none.0)
      by_last (inr one) = inl one

  pub last_within : last_number 0 whole ≤ front b s
  last_within = by_last last_in_line
    where
      by_last : (is_one_of (numbers_to b s (front b s)) (last_number 0 whole) ≡ true) ⊎ (whole ≡ []) → last_number 0 whole ≤ front b s
      by_last (inl one) = in_line_within b s right (last_number 0 whole) (in_line_of_to b s (front b s) (last_number 0 whole) one)
      by_last (inr none) = let zero_is : last_number 0 whole ≡ 0 = ap (last_number 0) none in omega (arith, zero_is)
