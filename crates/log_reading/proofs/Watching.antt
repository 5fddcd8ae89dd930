-- What a reading behind an end has seen.
use Rattle.std.proofs.Common.{◌≡◌, ◌≢◌, ◌⊎◌, ◌↔◌, ℕ, ◌+◌, ◌<◌, ◌≤◌, min, Bool, false, IsTrue, List, sym, ◌∙◌, ap, subst, inl, inr, arith, below_more}
use Rattle.std.proofs.lemmas.Bool.{false≢true, cases_order, cases_lt}
use Rattle.sqlite_wal.specs.Format.{part, stored_sum, is_big, commit_size}
use Rattle.sqlite_wal.specs.Recovery.{header, frame, sum_before}
use Rattle.log_reading.specs.Frames.{SumsFrom, HasFrame, Follows}
use Rattle.log_reading.specs.Stands.{EndsPast, EndedBehind, GoesOnBehind}
use Rattle.log_reading.proofs.Lemmas.{next_sums}

-- up to frame n nothing goes on behind an end at k; the sums there, and whether a transaction ended and all goes on since
pub record Watches (size : ℕ) (log : List ℕ) (k n : ℕ) (sums : ℕ × ℕ) (ended : Bool) : Type 0 where
  pub summed : sums ≡ sum_before size log n
  pub seen : IsTrue ended → EndedBehind size log k n
  pub unseen : EndedBehind size log k n → IsTrue ended
  pub so_far : (j : ℕ) → j < n → ¬ GoesOnBehind size log k j

pub none_ended : (size : ℕ) (log : List ℕ) (k : ℕ) → ¬ EndedBehind size log k k
none_ended size log k e = absurd (omega (arith, e.ends.behind, e.earlier))

pub begin_watch : (size : ℕ) (log : List ℕ) (k : ℕ) (sums : ℕ × ℕ) → sums ≡ sum_before size log k → Watches size log k k sums false
begin_watch size log k sums s = record {
  summed = s;
  seen = λ yes'. absurd (false≢true yes');
  unseen = λ e. absurd (none_ended size log k e);
  so_far = λ j low on. absurd (omega (arith, on.ended.ends.behind, on.ended.earlier));
}

-- a transaction has ended before the next frame where this one goes on from one, or ends one
ended_by : (size : ℕ) (log : List ℕ) (k n : ℕ) → (EndedBehind size log k n × Follows size log n) ⊎ EndsPast size log k n → EndedBehind size log k (n + 1)
ended_by size log k n (inl on) = record {
  last = on.0.last;
  ends = on.0.ends;
  earlier = omega (arith, on.0.earlier);
  follow = λ m after before. below_more (λ (it : ℕ). on.0.last < it → Follows size log it) n (λ it low later. on.0.follow it later low) (λ later. on.1) m before after;
}
ended_by size log k n (inr ends) = record { last = n; ends = ends; earlier = omega arith; follow = λ m after before. absurd (omega arith) }

ended_before : (size : ℕ) (log : List ℕ) (k n : ℕ) → EndedBehind size log k (n + 1) → (EndedBehind size log k n × Follows size log n) ⊎ EndsPast size log k n
ended_before size log k n e = elim (cases_order e.last n) [
  | inl same ↦ inr (subst (λ (it : ℕ). EndsPast size log k it) same e.ends)
  | inr (inl low) ↦ inl (record { last = e.last; ends = e.ends; earlier = low; follow = λ m after before. e.follow m after (omega arith) }, e.follow n low (omega arith))
  | inr (inr high) ↦ absurd (omega (arith, e.earlier))
]

-- what a frame that was read does to what was seen
pub step : (size : ℕ) (log buffer head : List ℕ) (k n : ℕ) (sums after : ℕ × ℕ) (ended on next ended' : Bool) → Watches size log k n sums ended → k ≤ n → HasFrame size log n
    → buffer ≡ frame size log n → head ≡ header log
    → IsTrue on ↔ (IsTrue ended × (SumsFrom (is_big head) sums buffer × (part buffer 8 8 ≡ part head 16 8)))
    → IsTrue ended' ↔ (IsTrue on ⊎ ((commit_size buffer ≢ 0) × (SumsFrom (is_big head) sums buffer ⊎ (IsTrue next × (part buffer 8 8 ≡ part head 16 8)))))
    → IsTrue next ↔ (n ≡ k + 1) → (IsTrue on → commit_size buffer ≢ 0 → ⊥) → after ≡ stored_sum buffer 16 → Watches size log k (n + 1) after ended'
step size log buffer head k n sums after ended on next ended' w low within b h goes by is_next quiet s =
    let summed = w.summed in
    let goes_there = rw (b, summed, h) at goes in
    let by_there = rw (b, summed, h) at by in
    let quiet_there = rw b at quiet in
    let on_from : EndedBehind size log k n × Follows size log n → IsTrue on = λ it. goes_there.1 (w.unseen it.0, (it.1.0.sums, it.1.1)) in
    record {
      summed = s ∙ ap (λ (it : List ℕ). stored_sum it 16) b ∙ sym (next_sums size log n);
      seen = λ yes'. ended_by size log k n (elim (by_there.0 yes') [
        | inl goes_on ↦ let it = goes_there.0 goes_on in inl (w.seen it.0, (record { within = within; sums = it.1.0 }, it.1.1))
        | inr (some, inl summed_there) ↦ inr (record { behind = low; commits = some; own = inl (record { within = within; sums = summed_there }) })
        | inr (some, inr (nexts, own)) ↦ inr (record { behind = low; commits = some; own = inr (is_next.0 nexts, own) })
      ]);
      unseen = λ e. by_there.1 (elim (ended_before size log k n e) [
        | inl it ↦ inl (on_from it)
        | inr ends ↦ inr (ends.commits, elim (ends.own) [ inl it ↦ inl it.sums | inr it ↦ inr (is_next.1 it.0, it.1) ])
      ]);
      so_far = below_more _ _ w.so_far (λ it. quiet_there (on_from (it.ended, it.follows)) it.commits);
    }

-- the second transaction was found
pub found : (size : ℕ) (log buffer head : List ℕ) (k n : ℕ) (sums : ℕ × ℕ) (ended on : Bool) → Watches size log k n sums ended → HasFrame size log n → buffer ≡ frame size log n
    → head ≡ header log → IsTrue on ↔ (IsTrue ended × (SumsFrom (is_big head) sums buffer × (part buffer 8 8 ≡ part head 16 8))) → IsTrue on → commit_size buffer ≢ 0 → n + 1 < 2000
    → (j : ℕ) × GoesOnBehind size log k j
found size log buffer head k n sums ended on w within b h goes yes' some few =
    let summed = w.summed in
    let it = (rw (b, summed, h) at goes).0 yes' in
    (n, record { ended = w.seen it.0; follows = (record { within = within; sums = it.1.0 }, it.1.1); commits = rw b at some; few = few })

nothing_there : (size : ℕ) (log : List ℕ) (k j count : ℕ) → ((i : ℕ) → count ≤ i → ¬ HasFrame size log i) → min count 1999 ≤ j → GoesOnBehind size log k j → ⊥
nothing_there size log k j count past all on = elim (cases_lt j count) [
  | inl low ↦ absurd (omega (arith, on.few))
  | inr high ↦ past j high on.follows.0.within
]

-- nothing goes on where no more frames are there, or none that is tried
pub nothing : (size : ℕ) (log : List ℕ) (k n count : ℕ) (sums : ℕ × ℕ) (ended : Bool) → Watches size log k n sums ended → min count 1999 ≤ n
    → ((i : ℕ) → count ≤ i → ¬ HasFrame size log i) → (j : ℕ) → GoesOnBehind size log k j → ⊥
nothing size log k n count sums ended w all past j on = elim (cases_order j n) [
  | inl same ↦ nothing_there size log k j count past (omega arith) on
  | inr (inl low) ↦ w.so_far j low on
  | inr (inr high) ↦ nothing_there size log k j count past (omega arith) on
]
