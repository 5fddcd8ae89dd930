-- Facts on the pieces and the lines of a body.
use Rattle.std.proofs.Common.{◌≡◌, ◌≢◌, ℕ, ◌+◌, ◌<◌, ◌≤◌, Bool, true, false, cond, eqb, List, [], ◌∷◌, ◌++◌, length, get_or, take, drop, refl, ap, sym, ◌∙◌, arith, suc, append_assoc}
use Rattle.std.proofs.lemmas.Bool.{or_parts, or_from, eqb-true}
use Rattle.std.proofs.lemmas.List.{append-nil, take_all, take_more, drop_all, drop_more, get_or-drop, get_or-take, take-append-drop, length-drop, length-take}
use Rattle.std.proofs.lemmas.List.Folds.{list_any-append}
use Rattle.std.proofs.Math.Seq.{take-add}
use Rattle.memchr.specs.Find.{is_byte, NoneBefore, Nowhere, Passes}
use Rattle.cwr_records.specs.Lines.{pieces, onto_first, has_line_end, IsWholePiece}

-- a front of bytes and the pieces of the rest, where no LF stands within the front
abbrev pub onto_front : List ℕ → List (List ℕ) → List (List ℕ)
onto_front front [] = front ∷ []
onto_front front (p ∷ ps) = (front ++ p) ∷ ps

one-onto : (b : ℕ) (ps : List (List ℕ)) → onto_first b ps ≡ onto_front (b ∷ []) ps
one-onto b [] = refl
one-onto b (p ∷ ps) = refl

more-onto : (b : ℕ) (bs : List ℕ) (ps : List (List ℕ)) → onto_first b (onto_front bs ps) ≡ onto_front (b ∷ bs) ps
more-onto b bs [] = refl
more-onto b bs (p ∷ ps) = refl

not-ended : (b : ℕ) (bs : List ℕ) → eqb b 10 ≡ false → pieces (b ∷ bs) ≡ onto_first b (pieces bs)
not-ended b bs free = ap (λ t. cond t ((b ∷ []) ∷ pieces bs) (onto_first b (pieces bs))) free

-- bytes without an LF stand in front of the first piece of what follows
pub open-pieces : (front more : List ℕ) → front ≢ [] → has_line_end front ≡ false → pieces (front ++ more) ≡ onto_front front (pieces more)
open-pieces [] more some free = absurd (some refl)
open-pieces (b ∷ []) more some free = not-ended b more (or_parts (eqb b 10) _ free).0 ∙ one-onto b (pieces more)
open-pieces (b ∷ (c ∷ cs)) more some free =
    let parts = or_parts (eqb b 10) (has_line_end (c ∷ cs)) free in
    not-ended b ((c ∷ cs) ++ more) parts.0
    ∙ ap (onto_first b) (open-pieces (c ∷ cs) more (λ e. cc) parts.1)
    ∙ more-onto b (c ∷ cs) (pieces more)

-- bytes without an LF and then one are the first piece, whatever follows
pub whole-pieces : (front more : List ℕ) → has_line_end front ≡ false → pieces (front ++ 10 ∷ more) ≡ (front ++ 10 ∷ []) ∷ pieces more
whole-pieces [] more free = refl
whole-pieces (b ∷ bs) more free =
    let parts = or_parts (eqb b 10) (has_line_end bs) free in
    not-ended b (bs ++ 10 ∷ more) parts.0 ∙ ap (onto_first b) (whole-pieces bs more parts.1)

-- no LF stands where no place has one
pub no-end : (bs : List ℕ) → ((k : ℕ) → 0 ≤ k → k < length bs → ¬ (eqb (get_or bs k 0) 10 ≡ true)) → has_line_end bs ≡ false
no-end [] none = refl
no-end (b ∷ bs) none =
    let here : eqb b 10 ≡ false = not-true (eqb b 10) (none 0 (omega arith) (omega arith)) in
    let there = no-end bs (λ k low high. none (suc k) (omega arith) (omega arith)) in
    or_from (eqb b 10) (has_line_end bs) here there where
      not-true : (t : Bool) → ¬ (t ≡ true) → t ≡ false
      not-true true h = absurd (h refl)
      not-true false h = refl

-- none of bytes is an LF, searched from a place on before which there is none
pub none-found : (bs hay : List ℕ) (n : ℕ) → hay ≡ drop n bs → has_line_end (take n bs) ≡ false → Nowhere (Passes (is_byte 10) hay) 0 (length hay) → has_line_end bs ≡ false
none-found bs hay n cut a none =
    let b : has_line_end (drop n bs) ≡ false = ap has_line_end (sym cut) ∙ no-end hay none in
    ap has_line_end (sym (take-append-drop n bs)) ∙ list_any-append (λ b. eqb b 10) (take n bs) (drop n bs) ∙ or_from _ _ a b

-- no LF stands in front of the first that is found
before-it : (hay : List ℕ) (k : ℕ) → NoneBefore (Passes (is_byte 10) hay) 0 (length hay) k → has_line_end (take k hay) ≡ false
before-it hay k none =
    no-end (take k hay) (λ j low high.
    let under : j < k = omega (arith, length-take k hay) in
    λ is. none.before j low under (sym (ap (λ x. eqb x 10) (get_or-take k hay j 0 under)) ∙ is))

-- the first LF of bytes, found from a place on before which there is none, ends the first piece
pub found-at : (bs hay : List ℕ) (n k : ℕ) → hay ≡ drop n bs → n ≤ length bs → has_line_end (take n bs) ≡ false → NoneBefore (Passes (is_byte 10) hay) 0 (length hay) k × Passes (is_byte 10) hay k → IsWholePiece bs (n + k + 1)
found-at bs hay n k cut within a found =
    let high : k < length (drop n bs) = omega (arith, found.0.high, ap length cut) in
    let b : has_line_end (take k (drop n bs)) ≡ false = ap (λ h. has_line_end (take k h)) (sym cut) ∙ before-it hay k found.0 in
    let at : eqb (get_or (drop n bs) k 0) 10 ≡ true = ap (λ h. eqb (get_or h k 0) 10) (sym cut) ∙ found.1 in
    let far : n + k < length bs = omega (arith, length-drop n bs) in
    let front : has_line_end (take (n + k) bs) ≡ false = ap has_line_end (take-add n k bs) ∙ list_any-append (λ b. eqb b 10) (take n bs) (take k (drop n bs)) ∙ or_from _ _ a b in
    let byte : get_or bs (n + k) 0 ≡ 10 = sym (get_or-drop n bs k 0) ∙ eqb-true _ 10 at in
    let rest : drop (n + k) bs ≡ 10 ∷ drop (n + k + 1) bs = drop_more bs (n + k) 0 far ∙ ap (λ x. x ∷ drop (n + k + 1) bs) byte in
    let whole : bs ≡ take (n + k) bs ++ 10 ∷ drop (n + k + 1) bs = sym (take-append-drop (n + k) bs) ∙ ap (λ r. take (n + k) bs ++ r) rest in
    let piece : take (n + k + 1) bs ≡ take (n + k) bs ++ 10 ∷ [] = take_more bs (n + k) 0 far ∙ ap (λ x. take (n + k) bs ++ x ∷ []) byte in
    let joined : (more : List ℕ) → bs ++ more ≡ take (n + k) bs ++ 10 ∷ (drop (n + k + 1) bs ++ more) = λ more. ap (λ x. x ++ more) whole ∙ append_assoc (take (n + k) bs) (10 ∷ drop (n + k + 1) bs) more in
    record {
      some = omega arith;
      within = omega arith;
      always = λ more. ap pieces (joined more) ∙ whole-pieces (take (n + k) bs) (drop (n + k + 1) bs ++ more) front ∙ ap (λ x. x ∷ pieces (drop (n + k + 1) bs ++ more)) (sym piece);
    }

-- a piece that is the first whatever follows is the first piece
pub pieces-at : (bs : List ℕ) (count : ℕ) → IsWholePiece bs count → pieces bs ≡ take count bs ∷ pieces (drop count bs)
pieces-at bs count is =
    ap pieces (sym (append-nil bs)) ∙ is.always [] ∙ ap (λ r. take count bs ∷ pieces r) (append-nil (drop count bs))

-- bytes without an LF are one piece
pub pieces-last : (bs : List ℕ) (count : ℕ) → count ≡ length bs → bs ≢ [] → has_line_end bs ≡ false → pieces bs ≡ take count bs ∷ pieces (drop count bs)
pieces-last bs count is some free =
    let all : length bs ≤ count = omega arith in
    ap pieces (sym (append-nil bs)) ∙ open-pieces bs [] some free ∙ rw (take_all count bs all, drop_all count bs all) refl
