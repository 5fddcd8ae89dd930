-- The ACK lines of some transactions, one on, and of two lists one behind the other.
use Rattle.std.proofs.Common.{◌≡◌, ℕ, suc, ◌+◌, ◌<◌, List, [], ◌∷◌, ◌++◌, length, drop, get_or, refl, sym, ap, ◌∙◌, append_assoc, arith, add-zero}
use Rattle.std.specs.List.{zip}
use Rattle.std.proofs.lemmas.List.{drop_more, drop-drop}
use Rattle.cwr_records.specs.declared.transmission_header.TransmissionHeader.{TransmissionHeader}
use Rattle.cwr_files.specs.declared.transmission.Transaction.{Transaction}
use Rattle.works_core.specs.declared.verdict.Verdict.{Verdict}
use Rattle.ack_files.specs.Acknowledgement.{ack_lines, ack_record}
use Rattle.ack_files.specs.Lines.{acknowledgement_line}

module _ (s : List ℕ) (o : TransmissionHeader) where
  -- no verdict is left, so no line is
  pub no_verdict : (at : ℕ) (ts : List Transaction) → ack_lines s o at ts [] ≡ []
  no_verdict at [] = refl
  no_verdict at (t ∷ ts) = refl

  -- the next transaction with its verdict
  pub next_line : (at : ℕ) (t : Transaction) (ts : List Transaction) (vs : List Verdict) (v : Verdict) → at < length vs → v ≡ get_or vs at v → ack_lines s o at (t ∷ ts) (drop at vs) ≡ acknowledgement_line (ack_record s o at t v) ++ ack_lines s o (at + 1) ts (drop (at + 1) vs)
  next_line at t ts vs v h is =
      ap (ack_lines s o at (t ∷ ts)) (drop_more vs at v h)
      ∙ ap (λ (w : Verdict). acknowledgement_line (ack_record s o at t w) ++ ack_lines s o (at + 1) ts (drop (at + 1) vs)) (sym is)

  -- the lines of two lists, one behind the other
  pub ack_lines-append : (k : ℕ) (xs ys : List Transaction) (vs : List Verdict) → ack_lines s o k (xs ++ ys) vs ≡ ack_lines s o k xs vs ++ ack_lines s o (k + length (zip xs vs)) ys (drop (length (zip xs vs)) vs)
  ack_lines-append k [] ys vs = ap (λ (n : ℕ). ack_lines s o n ys vs) (sym (add-zero k))
  ack_lines-append k (x ∷ xs) ys [] = sym (no_verdict (k + 0) ys)
  ack_lines-append k (x ∷ xs) ys (v ∷ vs) =
      let line = acknowledgement_line (ack_record s o k x v) in
      let shift : (k + 1) + length (zip xs vs) ≡ k + suc (length (zip xs vs)) = omega arith in
      ap (λ (t : List ℕ). line ++ t) (ack_lines-append (k + 1) xs ys vs)
      ∙ sym (append_assoc line (ack_lines s o (k + 1) xs vs) (ack_lines s o ((k + 1) + length (zip xs vs)) ys (drop (length (zip xs vs)) vs)))
      ∙ ap (λ (n : ℕ). (line ++ ack_lines s o (k + 1) xs vs) ++ ack_lines s o n ys (drop (length (zip xs vs)) vs)) shift

-- how many of two lists, one behind the other, have a verdict
pub length_zip-append : (xs ys : List Transaction) (vs : List Verdict) → length (zip (xs ++ ys) vs) ≡ length (zip xs vs) + length (zip ys (drop (length (zip xs vs)) vs))
length_zip-append [] ys vs = omega arith
length_zip-append (x ∷ xs) ys [] = no_pairs ys
  where
    no_pairs : (ys : List Transaction) → 0 ≡ 0 + length (zip ys (let none : List Verdict = [] in none))
    no_pairs [] = refl
    no_pairs (y ∷ ys) = refl
length_zip-append (x ∷ xs) ys (v ∷ vs) = omega (arith, length_zip-append xs ys vs)

-- after the next line was written, what is written and what is left are as before
pub line_written : {v : Verdict} (s : List ℕ) (o : TransmissionHeader) (at : ℕ) (t : Transaction) (ts : List Transaction) (vs : List Verdict) (front new : List ℕ) → at < length vs → new ≡ front ++ acknowledgement_line (ack_record s o at t v) → v ≡ get_or vs at v → new ++ ack_lines s o (at + 1) ts (drop (at + 1) vs) ≡ front ++ ack_lines s o at (t ∷ ts) (drop at vs)
line_written {v} s o at t ts vs front new h written is =
    ap (λ (x : List ℕ). x ++ ack_lines s o (at + 1) ts (drop (at + 1) vs)) written
    ∙ append_assoc front (acknowledgement_line (ack_record s o at t v)) (ack_lines s o (at + 1) ts (drop (at + 1) vs))
    ∙ ap (λ (x : List ℕ). front ++ x) (sym (next_line s o at t ts vs v h is))

-- one more has a verdict
pub one_counted : (at : ℕ) (t : Transaction) (ts : List Transaction) (vs : List Verdict) (v : Verdict) → at < length vs → (at + 1) + length (zip ts (drop (at + 1) vs)) ≡ at + length (zip (t ∷ ts) (drop at vs))
one_counted at t ts vs v h =
    let e = ap (λ (ws : List Verdict). length (zip (t ∷ ts) ws)) (drop_more vs at v h) in
    omega (arith, e)

-- after the lines of some transactions were written, what is written and what is left are as before
pub lines_appended : (s : List ℕ) (o : TransmissionHeader) (at after : ℕ) (xs ys : List Transaction) (vs : List Verdict) (front new : List ℕ) → after ≡ at + length (zip xs (drop at vs)) → new ≡ front ++ ack_lines s o at xs (drop at vs) → new ++ ack_lines s o after ys (drop after vs) ≡ front ++ ack_lines s o at (xs ++ ys) (drop at vs)
lines_appended s o at after xs ys vs front new e written =
    let n = length (zip xs (drop at vs)) in
    let behind : drop after vs ≡ drop n (drop at vs) = ap (λ (k : ℕ). drop k vs) e ∙ sym (drop-drop n at vs) in
    ap (λ (t : List ℕ). t ++ ack_lines s o after ys (drop after vs)) written
    ∙ append_assoc front (ack_lines s o at xs (drop at vs)) (ack_lines s o after ys (drop after vs))
    ∙ ap (λ (t : List ℕ). front ++ (ack_lines s o at xs (drop at vs) ++ t)) (ap (λ (k : ℕ). ack_lines s o k ys (drop after vs)) e ∙ ap (λ (ws : List Verdict). ack_lines s o (at + n) ys ws) behind)
    ∙ ap (λ (t : List ℕ). front ++ t) (sym (ack_lines-append s o at xs ys (drop at vs)))

-- and so many have a verdict
pub counted_appended : (at after : ℕ) (xs ys : List Transaction) (vs : List Verdict) → after ≡ at + length (zip xs (drop at vs)) → after + length (zip ys (drop after vs)) ≡ at + length (zip (xs ++ ys) (drop at vs))
counted_appended at after xs ys vs e =
    let n = length (zip xs (drop at vs)) in
    let behind : drop after vs ≡ drop n (drop at vs) = ap (λ (k : ℕ). drop k vs) e ∙ sym (drop-drop n at vs) in
    let rest = ap (λ (ws : List Verdict). length (zip ys ws)) behind in
    let both = length_zip-append xs ys (drop at vs) in
    omega (arith, e, rest, both)
