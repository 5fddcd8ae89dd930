-- A field that its bytes fill.
use Rattle.std.proofs.Common.{◌≡◌, ℕ, ◌-◌, List, ◌++◌, length, replicate, ap, ◌∙◌, arith, drop}
use borrow.Rule.Slice.PartMut.{put_mid, post_of}
use Rattle.std.proofs.lemmas.List.{append-nil, take_at, drop_at, drop_all}
use Rattle.cwr_records.specs.Lines.{fill_field}

-- bytes that have the width already are the field
pub fill-whole : (width : ℕ) (bytes : List ℕ) → length bytes ≡ width → fill_field width bytes ≡ bytes
unfolding fill_field
fill-whole width bytes h =
    let none : width - length bytes ≡ 0 = omega arith in
    ap (λ (n : ℕ). bytes ++ replicate n 32) none ∙ append-nil bytes

-- bytes written behind a front fill the rest
pub put_behind : (a k : ℕ) (front blanks back : List ℕ) → length front ≡ a → length blanks ≡ k → put_mid a k (front ++ blanks) back ≡ front ++ back
put_behind a k front blanks back h g =
    ap (λ (t : List ℕ). t ++ (back ++ post_of a k (front ++ blanks))) (take_at front blanks a h)
    ∙ ap (λ (t : List ℕ). front ++ (back ++ t)) (ap (λ (t : List ℕ). drop k t) (drop_at front blanks a h) ∙ drop_all k blanks (omega arith))
    ∙ ap (λ (t : List ℕ). front ++ t) (append-nil back)
