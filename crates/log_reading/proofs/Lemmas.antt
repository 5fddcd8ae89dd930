-- Places of frames in a log, and what of a buffer that holds a frame is the frame's.
use Rattle.std.proofs.Common.{◌≡◌, ◌≢◌, ◌↔◌, ℕ, suc, ◌+◌, ◌-◌, ◌*◌, ◌/◌, ◌<◌, ◌≤◌, Bool, true, not, eqb, IsTrue, List, take, drop, refl, sym, ◌∙◌, ap, arith, add-one, mul-le-mul_right, below_more}
use Rattle.std.proofs.lemmas.Slice.Eq.{bytes_eq-Decides}
use Rattle.std.proofs.lemmas.Bool.{eq-eqb, false≢true, not-true}
use Rattle.std.proofs.lemmas.Bool.Decides.{nat_tests}
use Rattle.std.specs.Str.{bytes_eq}
use Rattle.sqlite_wal.specs.Format.{part, be32, stored_sum, is_big, commit_size}
use Rattle.sqlite_wal.specs.Recovery.{frame_at, header, frame, sum_before}
use Rattle.sqlite_wal.proofs.PartLemmas.{frames_len-suc}
use Rattle.log_reading.specs.Frames.{SumsFrom, HasFrame, Follows}
use Rattle.log_reading.specs.Stands.{EndsWhole}

-- so many frames fit, and no more
pub fits : (i n w : ℕ) → i < n / w → i * w + w ≤ n
fits i n w h =
    let more : suc i * w ≤ n / w * w = mul-le-mul_right w h in
    omega arith

pub fits_no_more : (i n w : ℕ) → 0 < w → n / w ≤ i → n < i * w + w
fits_no_more i n w some h =
    let more : n / w * w ≤ i * w = mul-le-mul_right w h in
    omega arith

pub all_fit : (n w : ℕ) → 0 < w → n / w * w ≤ n
all_fit n w some = omega arith

-- the next frame begins where a frame ends
pub next_at : (size i : ℕ) → frame_at size (i + 1) ≡ frame_at size i + (24 + size)
next_at size i = rw add-one (omega (arith, frames_len-suc size i))

-- the sums before the next frame are those of a frame
pub next_sums : (size : ℕ) (log : List ℕ) (i : ℕ) → sum_before size log (i + 1) ≡ stored_sum (frame size log i) 16
next_sums size log i = ap (sum_before size log) (add-one i)

-- what `==` says of eight bytes and those that stand at a place
pub salts_decide : (r : Bool) (bytes other : List ℕ) (at : ℕ) → r ≡ bytes_eq (take 8 (drop 8 bytes)) (take (at + 8 - at) (drop at other)) → IsTrue r ↔ (part bytes 8 8 ≡ part other at 8)
unfolding part
salts_decide r bytes other at is =
    let eight : at + 8 - at ≡ 8 = omega arith in
    let now : r ≡ bytes_eq (take 8 (drop 8 bytes)) (take 8 (drop at other)) = is ∙ ap (λ (n : ℕ). bytes_eq (take 8 (drop 8 bytes)) (take n (drop at other))) eight in (
      λ yes'. (bytes_eq-Decides _ _).0 (sym now ∙ yes'),
      λ same. now ∙ (bytes_eq-Decides _ _).1 same,
    )

-- a buffer that holds a frame goes on from the sums before it exactly where the frame does
pub follows_from : (size : ℕ) (log buffer head : List ℕ) (i : ℕ) (sums : ℕ × ℕ) → buffer ≡ frame size log i → sums ≡ sum_before size log i → head ≡ header log → HasFrame size log i
    → SumsFrom (is_big head) sums buffer × (part buffer 8 8 ≡ part head 16 8) → Follows size log i
follows_from size log buffer head i sums b s h within on =
    let there = rw (b, s, h) at on in
    (record { within = within; sums = there.0 }, there.1)

pub follows_to : (size : ℕ) (log buffer head : List ℕ) (i : ℕ) (sums : ℕ × ℕ) → buffer ≡ frame size log i → sums ≡ sum_before size log i → head ≡ header log
    → Follows size log i → SumsFrom (is_big head) sums buffer × (part buffer 8 8 ≡ part head 16 8)
follows_to size log buffer head i sums b s h on = rw (b, s, h) (on.0.sums, on.1)

-- the first k frames of a log follow, with the sums behind them, and this is whether they are whole transactions
pub record HasRead (size : ℕ) (log : List ℕ) (k : ℕ) (sums : ℕ × ℕ) (whole : Bool) : Type 0 where
  pub before : (i : ℕ) → i < k → Follows size log i
  pub summed : sums ≡ sum_before size log k
  pub ends : IsTrue whole ↔ EndsWhole size log k

-- before the first frame nothing was read
pub none_read : (size : ℕ) (log head : List ℕ) (sums : ℕ × ℕ) → sums ≡ stored_sum head 24 → head ≡ header log → HasRead size log 0 sums true
none_read size log head sums s h = record {
  before = λ i low. absurd (omega arith);
  summed = s ∙ ap (λ (b : List ℕ). stored_sum b 24) h;
  ends = (λ _ i none. absurd (omega arith), λ _. refl);
}

not-some : (n : ℕ) → n ≢ 0 → IsTrue (not (eqb n 0))
not-some n some = grind (arith, nat_tests)

-- whether a number is not nought
pub is_some : (n m : ℕ) → n ≡ m → IsTrue (not (eqb n 0)) ↔ (m ≢ 0)
is_some n m is = (
  λ yes' none. false≢true (sym (not-true _ yes') ∙ eq-eqb _ _ (is ∙ none)),
  λ some. not-some n (λ none. some (sym is ∙ none)),
)

-- one more frame was read
pub one_more : (size : ℕ) (log buffer : List ℕ) (k pages : ℕ) (before after : ℕ × ℕ) (whole : Bool) → HasRead size log k before whole → Follows size log k → buffer ≡ frame size log k
    → after ≡ stored_sum buffer 16 → pages ≡ be32 buffer 4 → HasRead size log (k + 1) after (not (eqb pages 0))
one_more size log buffer k pages before after whole read follows b s p =
    let size_there : pages ≡ commit_size (frame size log k) = p ∙ ap (λ (it : List ℕ). be32 it 4) b in
    let some = is_some pages _ size_there in
    record {
      before = below_more _ _ read.before follows;
      summed = s ∙ ap (λ (it : List ℕ). stored_sum it 16) b ∙ sym (next_sums size log k);
      ends = (
        λ yes' i last. let same : i ≡ k = omega arith in rw same (some.0 yes'),
        λ ends. some.1 (ends k refl),
      );
    }
