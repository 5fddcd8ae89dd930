-- A front among the plain numbers: all numbers up to it are in the line, whatever ends were stated.
use Rattle.std.proofs.Common.{◌≡◌, ℕ, ◌-◌, ◌<◌, ◌≤◌, true, false, nat_le, List, [], None, refl, ap, sym, ◌∙◌, arith, ⊎_elim}
use Rattle.std.proofs.lemmas.Bool.{and_right, cases_lt}
use Rattle.std.proofs.lemmas.Bool.Decides.{nat_tests}
use Rattle.std.specs.List.{range_with_len}
use Rattle.work_ids.specs.Segments.{segment_of}
use Rattle.sender_segments.specs.Ways.{AreRight, StatedEnds, leads_to, numbers_up_to}
use Rattle.sender_segments.proofs.lemmas.LedTo.{up_to_front}
use Rattle.sender_segments.proofs.lemmas.Ranks.{made_plain}
use Rattle.society_core.specs.Book.{Book, is_one_of}
use Rattle.society_book.specs.Standing.{ListsSkipped}
use Rattle.society_book.proofs.lemmas.shown.Skips.{none_some}

-- a sender that stated no end
abbrev no_ends : StatedEnds
no_ends = λ _. None

no_ends_right : AreRight no_ends
no_ends_right = record { within = λ g e is. absurd (none_some e is); later = λ g e is. absurd (none_some e is) }

plain_numbers : (ends : StatedEnds) (f : ℕ) → segment_of f ≡ 0 → numbers_up_to ends f ≡ range_with_len 1 (f - 0)
plain_numbers ends f plain = rw plain refl

pub plain_line : (ends : StatedEnds) (f n : ℕ) → f ≤ 999999 → 1 ≤ n → is_one_of (numbers_up_to ends f) n ≡ nat_le n f
plain_line ends f n low some =
    let plain : segment_of f ≡ 0 = made_plain f (omega (arith, low)) in
    let led : leads_to no_ends f ≡ true = rw plain refl in
    ap (λ (ns : List ℕ). is_one_of ns n) (plain_numbers ends f plain ∙ sym (plain_numbers no_ends f plain))
    ∙ up_to_front no_ends no_ends_right f n led (λ e is. absurd (none_some e is))
    ∙ ⊎_elim
    (λ (above : f < n). let no : nat_le n f ≡ false = grind (arith, nat_tests) in rw no (and_right _ false refl))
    (λ (below : n ≤ f).
    let at : segment_of n ≡ 0 = made_plain n (omega (arith, low, below)) in
    let yes : nat_le n f ≡ true = grind (arith, nat_tests) in
    let first : nat_le 1 (n - 0) ≡ true = grind (arith, nat_tests) in
    rw (at, yes, first) refl)
    (cases_lt f n)

-- up to such a front no segment is skipped
pub plain_lists : (book : Book) (sender : List ℕ) (f : ℕ) → f ≤ 999999 → ListsSkipped book sender f []
plain_lists book sender f low = record {
  skips = [];
  are = record {
    rise = omega arith;
    skipped = λ n some up. let at : segment_of n ≡ 0 = made_plain n (omega (arith, up, low)) in rw at refl;
  };
  numbers = refl;
}
