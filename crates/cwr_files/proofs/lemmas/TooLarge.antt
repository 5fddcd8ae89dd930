-- Lines and bodies that are too large.
use Rattle.std.proofs.Common.{◌≡◌, ℕ, ◌+◌, ◌-◌, ◌<◌, ◌≤◌, Bool, true, false, cond, eqb, List, [], ◌∷◌, ◌++◌, length, get_or, take, refl, ap, sym, ◌∙◌, arith, length-append, inl, inr}
use Rattle.std.specs.Prelude.{nat_lt}
use Rattle.std.proofs.lemmas.Bool.{or_parts, or_from, ltb-false, le-ltb, cases_Bool, eqb-true, false≢true}
use Rattle.std.proofs.lemmas.List.{append-nil, length-take, take_at, get_or_at}
use Rattle.std.proofs.lemmas.List.Folds.{list_any-append, list_any_at}
use Rattle.cwr_records.specs.Lines.{line_of_piece, without_last, has_line_end}
use Rattle.cwr_files.specs.Sizes.{max_line, max_body}
use Rattle.cwr_files.specs.LineFaults.{is_too_large}

pub too_large-parts : (end : ℕ) (line : List ℕ) → is_too_large end line ≡ false → (length line ≤ max_line) × (end ≤ max_body)
unfolding is_too_large
too_large-parts end line e =
    let p = or_parts (nat_lt max_line (length line)) (nat_lt max_body end) e in
    (ltb-false max_line (length line) p.0, ltb-false max_body end p.1)

pub too_large-from : (end : ℕ) (line : List ℕ) → length line ≤ max_line → end ≤ max_body → is_too_large end line ≡ false
unfolding is_too_large
too_large-from end line a b = or_from _ _ (le-ltb max_line (length line) a) (le-ltb max_body end b)

-- what is too large stays so where it grows
pub larger : (end far : ℕ) (line long : List ℕ) → end ≤ far → length line ≤ length long → is_too_large end line ≡ true → is_too_large far long ≡ true
larger end far line long a b large =
    elim (cases_Bool (is_too_large far long)) [
      | inl large' ↦ large'
      | inr small ↦
          let fits = too_large-parts far long small in
          absurd (false≢true (sym (too_large-from end line (omega (arith, fits.0)) (omega (arith, fits.1))) ∙ large))
    ]

pub too_long : (end : ℕ) (line : List ℕ) → max_line + 1 ≤ length line → is_too_large end line ≡ true
too_long end line long =
    elim (cases_Bool (is_too_large end line)) [
      | inl large' ↦ large'
      | inr small ↦ absurd (omega (arith, (too_large-parts end line small).0))
    ]

-- how long a line is

last-is-none : (p : List ℕ) → has_line_end p ≡ false → eqb (get_or p (length p - 1) 0) 10 ≡ false
last-is-none [] free = refl
last-is-none (b ∷ bs) free =
    elim (cases_Bool (eqb (get_or (b ∷ bs) (length (b ∷ bs) - 1) 0) 10)) [
      | inl ends ↦
          let within : length (b ∷ bs) - 1 < length (b ∷ bs) = omega arith in
          absurd (false≢true (sym free ∙ list_any_at (λ x. eqb x 10) (b ∷ bs) (length (b ∷ bs) - 1) 0 within ends))
      | inr other ↦ other
    ]

-- bytes without an LF lose none
pub open-line : (p : List ℕ) → has_line_end p ≡ false → line_of_piece p ≡ without_last 13 p
unfolding line_of_piece
open-line p free = ap (λ t. without_last 13 (cond t (take (length p - 1) p) p)) (last-is-none p free)

ended-line : (p : List ℕ) → line_of_piece (p ++ 10 ∷ []) ≡ without_last 13 p
unfolding line_of_piece
ended-line p =
    let at : length (p ++ 10 ∷ []) - 1 ≡ length p = omega (arith, length-append p (10 ∷ [])) in
    let last : get_or (p ++ 10 ∷ []) (length (p ++ 10 ∷ []) - 1) 0 ≡ 10 = get_or_at p 10 [] 0 (length (p ++ 10 ∷ []) - 1) (sym at) in
    let front : take (length (p ++ 10 ∷ []) - 1) (p ++ 10 ∷ []) ≡ p = take_at p (10 ∷ []) (length (p ++ 10 ∷ []) - 1) (sym at) in
    ap (λ x. without_last 13 (cond (eqb x 10) (take (length (p ++ 10 ∷ []) - 1) (p ++ 10 ∷ [])) (p ++ 10 ∷ []))) last
    ∙ ap (without_last 13) front

less-one : (b : ℕ) (bs : List ℕ) → length bs ≤ length (without_last b bs) + 1
less-one b bs = chosen (eqb (get_or bs (length bs - 1) 0) b) where
  chosen : (t : Bool) → length bs ≤ length (cond t (take (length bs - 1) bs) bs) + 1
  chosen true = omega (arith, length-take (length bs - 1) bs)
  chosen false = omega arith

no-more : (b : ℕ) (bs : List ℕ) → length (without_last b bs) ≤ length bs
no-more b bs = chosen (eqb (get_or bs (length bs - 1) 0) b) where
  chosen : (t : Bool) → length (cond t (take (length bs - 1) bs) bs) ≤ length bs
  chosen true = omega (arith, length-take (length bs - 1) bs)
  chosen false = omega arith

line-loses-two : (p : List ℕ) → length p ≤ length (line_of_piece p) + 2
unfolding line_of_piece
line-loses-two p = omega (arith, less-one 10 p, less-one 13 (without_last 10 p))

pub line-loses-one : (p : List ℕ) → has_line_end p ≡ false → length p ≤ length (line_of_piece p) + 1
line-loses-one p free = omega (arith, less-one 13 p, ap length (open-line p free))

line-gains-none : (p : List ℕ) → has_line_end p ≡ false → length (line_of_piece p) ≤ length p
line-gains-none p free = omega (arith, no-more 13 p, ap length (open-line p free))

one-more : (p : List ℕ) (x : ℕ) (t : Bool) → eqb x 10 ≡ t → has_line_end p ≡ false → length (line_of_piece p) ≤ length (line_of_piece (p ++ x ∷ []))
one-more p x true is free =
    omega (arith, ap length (open-line p free), ap length (ended-line p), ap (λ y. length (line_of_piece (p ++ y ∷ []))) (eqb-true x 10 is))
one-more p x false is free =
    let alone : has_line_end (x ∷ []) ≡ false = or_from _ _ is refl in
    let none : has_line_end (p ++ x ∷ []) ≡ false = list_any-append (λ b. eqb b 10) p (x ∷ []) ∙ or_from _ _ free alone in
    omega (arith, line-gains-none p free, line-loses-one (p ++ x ∷ []) none, length-append p (x ∷ []))

-- bytes that follow make the line of bytes without an LF no shorter
pub line-grows : (p more : List ℕ) → has_line_end p ≡ false → length (line_of_piece p) ≤ length (line_of_piece (p ++ more))
line-grows p [] free = omega (arith, ap (λ q. length (line_of_piece q)) (append-nil p))
line-grows p (x ∷ []) free = one-more p x (eqb x 10) refl free
line-grows p (x ∷ y ∷ more) free =
    omega (arith, line-gains-none p free, line-loses-two (p ++ x ∷ y ∷ more), length-append p (x ∷ y ∷ more))
