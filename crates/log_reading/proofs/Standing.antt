-- One log ends at one place, and what is found there is what its definition says.
use Rattle.std.proofs.Common.{◌≡◌, ◌⊎◌, ℕ, ◌+◌, ◌≤◌, List, slice_index, Option, Some, None, IsSome, refl, sym, ◌∙◌, ap, subst, inl, inr, arith}
use Rattle.std.proofs.lemmas.Bool.{cases_order, false≢true}
use Rattle.sqlite_wal.specs.Format.{be32}
use Rattle.sqlite_wal.specs.PageSize.{size_in_file}
use Rattle.sqlite_wal.specs.Recovery.{header}
use Rattle.sqlite_wal.proofs.FormatLemmas.{be32-part}
use Rattle.sqlite_wal.proofs.PartLemmas.{slice_index-part}
use Rattle.log_reading.specs.Frames.{IsEnd}
use Rattle.log_reading.specs.Stands.{HasSums, IsShut, EndsWhole, GoesOnBehind, StandsWith, IsOldEnd, Lacks}

pub one_end : (size : ℕ) (log : List ℕ) (k other : ℕ) → IsEnd size log k → IsEnd size log other → k ≡ other
one_end size log k other a b = elim (cases_order k other) [
  | inl same ↦ same
  | inr (inl low) ↦ absurd (a.ends (b.before k low))
  | inr (inr high) ↦ absurd (b.ends (a.before other high))
]

pub one_old_end : (size : ℕ) (log : List ℕ) (c other : ℕ) → IsOldEnd size log c → IsOldEnd size log other → c ≡ other
one_old_end size log c other a b = elim (cases_order c other) [
  | inl same ↦ same
  | inr (inl low) ↦ absurd (b.commits (a.last other low b.join))
  | inr (inr high) ↦ absurd (a.commits (b.last c high a.join))
]

-- a number in the header, and the first byte of the salts
pub header_be32 : (log head : List ℕ) (at number : ℕ) → head ≡ header log → at + 4 ≤ 32 → number ≡ be32 head at → be32 log at ≡ number
header_be32 log head at number h within is =
    let zero_on : 0 + at ≡ at = omega arith in
    sym (is ∙ ap (λ (it : List ℕ). be32 it at) h ∙ be32-part log 0 32 at within ∙ ap (be32 log) zero_on)

pub header_key : (log head : List ℕ) → head ≡ header log → slice_index head 16 ≡ slice_index log 16
header_key log head h = ap (λ (it : List ℕ). slice_index it 16) h ∙ slice_index-part log 0 32 16 (omega arith)

-- a log of another page size or another end does not stand
pub stands_not : (log db : List ℕ) (size k : ℕ) → be32 log 8 ≡ size → IsEnd size log k
    → (((HasSums db → EndsWhole size log k × IsShut size log k) → ⊥) ⊎ ((j : ℕ) × GoesOnBehind size log k j)) → StandsWith log db → ⊥
stands_not log db size k named is_end fault stands =
    let same_size : stands.size ≡ size = sym stands.named ∙ named in
    let ends = subst (λ (it : ℕ). IsEnd it log stands.end) same_size stands.ends in
    let same : stands.end ≡ k = one_end size log stands.end k ends is_end in
    let closed : HasSums db → EndsWhole size log k × IsShut size log k = λ sums.
    let here = subst (λ (it : ℕ). EndsWhole it log stands.end × IsShut it log stands.end) same_size (stands.closed sums) in
    subst (λ (it : ℕ). EndsWhole size log it × IsShut size log it) same here in
    let last : (j : ℕ) → ¬ GoesOnBehind size log k j = λ j.
    let here = subst (λ (it : ℕ). ¬ GoesOnBehind it log stands.end j) same_size (stands.last j) in
    subst (λ (it : ℕ). ¬ GoesOnBehind size log it j) same here in
    elim fault [ inl not_closed ↦ not_closed closed | inr on ↦ last on.0 on.1 ]

-- the file has all that the old frames have, at the size that it names
pub held_by : (log db : List ℕ) (size last : ℕ) → size ≡ size_in_file db → IsOldEnd size log last → ((i : ℕ) → Lacks size log db last i → ⊥)
    → (c i : ℕ) → IsOldEnd (size_in_file db) log c → ¬ Lacks (size_in_file db) log db c i
held_by log db size last named is_end none c i other lacks =
    let there = subst (λ (it : ℕ). IsOldEnd it log c) (sym named) other in
    let same : c ≡ last = one_old_end size log c last there is_end in
    let here = subst (λ (it : ℕ). Lacks it log db c i) (sym named) lacks in
    none i (subst (λ (it : ℕ). Lacks size log db it i) same here)

pub no_some : {A : Type 0} → (o : Option A) → ((x : A) → o ≡ Some x → ⊥) → IsSome o → ⊥
no_some None none some = absurd (false≢true some)
no_some (Some x) none some = none x refl
