-- The running counts agree with the lines before, one line after another.
use Rattle.std.proofs.Common.{◌≡◌, ℕ, ◌+◌, Bool, true, false, cond, List, [], ◌∷◌, length, refl, ap, sym, ◌∙◌, arith, inl, inr, add-one}
use Rattle.std.specs.Prelude.{not, ◌||◌, None, Some, Option, find, unwrap_or, count_by}
use Rattle.std.specs.List.{list_any}
use Rattle.std.proofs.lemmas.Bool.{cases_Bool, cond-true, cond-false}
use Rattle.std.proofs.lemmas.List.Sums.{take_while-cons, sum_by-cons}
use Rattle.cwr_records.specs.Lines.{is_blank}
use Rattle.cwr_files.specs.declared.counts.Counts.{Counts}
use Rattle.cwr_files.specs.declared.counts.OpenGroup.{OpenGroup}
use Rattle.cwr_files.specs.declared.counts.Stage.{Stage}
use Rattle.cwr_files.specs.declared.counts.Stage.TheVariants.{Header, Between, Within, Ended}
use Rattle.cwr_files.specs.RecordTypes.{hdr, grh, grt, trl, has_type, is_frame, type_of_group}
use Rattle.cwr_files.specs.LineFaults.{is_too_large, record_sequence_at, too_large, no_header, outside_groups, misplaced_in_group, behind_trailer}
use Rattle.cwr_files.specs.Chain.{header_fault, between_fault, group_fault, record_fault, ended_fault}
use Rattle.cwr_files.specs.LinesBefore.{since, is_ended, is_open, open_type, groups_before, transactions_in_group, lines_in_group, next_number, begins_transaction, transactions_before}
use Rattle.cwr_files.proofs.lemmas.Chained.{later_fault, structure_fault, fault-chained}
use Rattle.cwr_files.specs.FileFault.{fault_at}
use Rattle.cwr_files.specs.Counts.{stage_of, counts_of, stage_fault, counted_fault, group_after, group_begun_by, after_in, counts_after}
use Rattle.cwr_files.proofs.lemmas.LineFacts.{other_type, NoFrame, no_frame, blank_is_no_grh}

-- the fault of a stage

stage_fault-chosen : (sender : List ℕ) (ended opened : Bool) (g : OpenGroup) (c : Counts) (line : List ℕ) →
    stage_fault sender (cond ended Ended (cond opened (Within g) Between)) c line
    ≡ cond ended (ended_fault line) (cond opened (group_fault c.groups g.kind g.transactions g.lines g.further line) (between_fault c.groups c.transactions c.lines line))
stage_fault-chosen sender true opened g c line = refl
stage_fault-chosen sender false true g c line = refl
stage_fault-chosen sender false false g c line = refl

pub structure-behind : (sender : List ℕ) (past : List (List ℕ)) (line : List ℕ) → stage_fault sender (counts_of past).stage (counts_of past) line ≡ structure_fault sender past line
unfolding counts_of later_fault
structure-behind sender [] line = refl
structure-behind sender (l ∷ past) line = stage_fault-chosen sender (is_ended (l ∷ past)) (is_open (l ∷ past)) _ (counts_of (l ∷ past)) line

-- the running counts find the fault that stands behind the lines
pub fault-behind : (sender : List ℕ) (past : List (List ℕ)) (end : ℕ) (line : List ℕ) → counted_fault sender (counts_of past) end line ≡ fault_at sender past end line
unfolding counted_fault
fault-behind sender past end line =
    ap (λ f. cond (is_too_large end line) (Some too_large) f) (structure-behind sender past line) ∙ sym (fault-chained sender past end line)

-- one line more

since-step : (code l : List ℕ) (past : List (List ℕ)) → since code (l ∷ past) ≡ cond (not (has_type code l)) (l ∷ since code past) []
unfolding since
since-step code l past = take_while-cons (λ x. not (has_type code x)) l past

since-other : (code l : List ℕ) (past : List (List ℕ)) → has_type code l ≡ false → since code (l ∷ past) ≡ l ∷ since code past
since-other code l past e = since-step code l past ∙ ap (λ b. cond (not b) (l ∷ since code past) []) e

since-it : (code l : List ℕ) (past : List (List ℕ)) → has_type code l ≡ true → since code (l ∷ past) ≡ []
since-it code l past e = since-step code l past ∙ ap (λ b. cond (not b) (l ∷ since code past) []) e

is_ended-step : (l : List ℕ) (past : List (List ℕ)) → is_ended (l ∷ past) ≡ (has_type trl l || is_ended past)
unfolding is_ended
is_ended-step l past = refl

is_open-other : (l : List ℕ) (past : List (List ℕ)) → has_type grt l ≡ false → is_open (l ∷ past) ≡ (has_type grh l || is_open past)
unfolding is_open
is_open-other l past e = ap (list_any (has_type grh)) (since-other grt l past e)

is_open-closed : (l : List ℕ) (past : List (List ℕ)) → has_type grt l ≡ true → is_open (l ∷ past) ≡ false
unfolding is_open
is_open-closed l past e = ap (list_any (has_type grh)) (since-it grt l past e)

open_type-it : (l : List ℕ) (past : List (List ℕ)) → has_type grh l ≡ true → open_type (l ∷ past) ≡ type_of_group l
unfolding open_type
open_type-it l past e = ap (λ b. type_of_group (unwrap_or (cond b (Some l) (find (has_type grh) past)) [])) e

open_type-other : (l : List ℕ) (past : List (List ℕ)) → has_type grh l ≡ false → open_type (l ∷ past) ≡ open_type past
unfolding open_type
open_type-other l past e = ap (λ b. type_of_group (unwrap_or (cond b (Some l) (find (has_type grh) past)) [])) e

groups-step : (l : List ℕ) (past : List (List ℕ)) (b : Bool) → has_type grh l ≡ b → groups_before (l ∷ past) ≡ cond b 1 0 + groups_before past
unfolding groups_before
groups-step l past b e = sum_by-cons (λ x. cond (has_type grh x) 1 0) l past ∙ ap (λ d. cond d 1 0 + count_by (has_type grh) past) e

in_group-it : (l : List ℕ) (past : List (List ℕ)) → has_type grh l ≡ true → transactions_in_group (l ∷ past) ≡ 0
unfolding transactions_in_group
in_group-it l past e = ap (count_by (has_type (open_type (l ∷ past)))) (since-it grh l past e)

in_group-other : (l : List ℕ) (past : List (List ℕ)) → has_type grh l ≡ false → transactions_in_group (l ∷ past) ≡ cond (has_type (open_type past) l) 1 0 + transactions_in_group past
unfolding transactions_in_group
in_group-other l past e =
    ap (λ k. count_by (has_type k) (since grh (l ∷ past))) (open_type-other l past e)
    ∙ ap (count_by (has_type (open_type past))) (since-other grh l past e)
    ∙ sum_by-cons (λ x. cond (has_type (open_type past) x) 1 0) l (since grh past)

lines-it : (l : List ℕ) (past : List (List ℕ)) → has_type grh l ≡ true → lines_in_group (l ∷ past) ≡ 1
unfolding lines_in_group
lines-it l past e = ap (λ xs. length xs + 1) (since-it grh l past e)

lines-other : (l : List ℕ) (past : List (List ℕ)) → has_type grh l ≡ false → lines_in_group (l ∷ past) ≡ lines_in_group past + 1
unfolding lines_in_group
lines-other l past e = ap (λ xs. length xs + 1) (since-other grh l past e) ∙ omega arith

next-it : (l : List ℕ) (past : List (List ℕ)) → has_type grh l ≡ true → next_number (l ∷ past) ≡ 1
unfolding next_number since
next-it l past e = ap (λ xs. length (since (open_type (l ∷ past)) xs) + 1) (since-it grh l past e)

since-chosen : (code l : List ℕ) (xs : List (List ℕ)) (b : Bool) → has_type code l ≡ b → length (since code (l ∷ xs)) + 1 ≡ cond b 0 (length (since code xs) + 1) + 1
since-chosen code l xs true e = ap (λ ys. length ys + 1) (since-it code l xs e)
since-chosen code l xs false e = ap (λ ys. length ys + 1) (since-other code l xs e) ∙ omega arith

next-other : (l : List ℕ) (past : List (List ℕ)) → has_type grh l ≡ false → next_number (l ∷ past) ≡ record_sequence_at (open_type past) (next_number past) l + 1
unfolding next_number
next-other l past e =
    ap (λ k. length (since k (since grh (l ∷ past))) + 1) (open_type-other l past e)
    ∙ ap (λ xs. length (since (open_type past) xs) + 1) (since-other grh l past e)
    ∙ since-chosen (open_type past) l (since grh past) (has_type (open_type past) l) refl

-- counts that stand in parts
made : (l : List ℕ) (past : List (List ℕ)) (groups transactions : ℕ) (stage : Stage) → groups_before (l ∷ past) ≡ groups → transactions_before (l ∷ past) ≡ transactions → stage_of (l ∷ past) ≡ stage → record { lines = length past + 1; groups = groups; transactions = transactions; stage = stage } ≡ counts_of (l ∷ past)
unfolding counts_of
made l past g t s eg et es =
    let same : Counts → Counts → Type 0 = λ a b. a ≡ b in
    rw (← eg, ← et, ← es, add-one) refl

-- the facts at a line that has no fault

first-true : (b : Bool) (n : ℕ) (x : Option ℕ) → cond (not b) (Some n) x ≡ None → b ≡ true
first-true true n x e = refl
first-true false n x e = absurd cc

kept : (b : Bool) (n : ℕ) → cond b None (Some n) ≡ None → b ≡ true
kept true n e = refl
kept false n e = absurd cc

header-hdr : (sender line : List ℕ) → header_fault sender line ≡ None → has_type hdr line ≡ true
unfolding header_fault
header-hdr sender line e = first-true (has_type hdr line) no_header _ e

second-true : (a b : Bool) (x y : Option ℕ) → cond a x (cond b y (Some outside_groups)) ≡ None → a ≡ false → b ≡ true
second-true true b x y e h = absurd cc
second-true false true x y e h = refl
second-true false false x y e h = absurd cc

between-trl : (g t n : ℕ) (line : List ℕ) → between_fault g t n line ≡ None → has_type grh line ≡ false → has_type trl line ≡ true
unfolding between_fault
between-trl g t n line e h = second-true (has_type grh line) (has_type trl line) _ _ e h

first-false : (a b : Bool) (x : Option ℕ) → cond (a || b) (Some misplaced_in_group) x ≡ None → a ≡ false
first-false true b x e = absurd cc
first-false false b x e = refl

then-part : {A : Type 0} (a : Bool) (x y z : A) → cond a x y ≡ z → a ≡ true → x ≡ z
then-part true x y z e h = e
then-part false x y z e h = absurd cc

else-part : {A : Type 0} (a : Bool) (x y z : A) → cond a x y ≡ z → a ≡ false → y ≡ z
else-part true x y z e h = absurd cc
else-part false x y z e h = e

record-no_frame : (g t n f : ℕ) (type line : List ℕ) → group_fault g type t n f line ≡ None → has_type grt line ≡ false → NoFrame line
unfolding group_fault record_fault
record-no_frame g t n f type line e h = no_frame line (first-false (is_frame line) _ _ (else-part (has_type grt line) _ _ None e h))

ended-blank : (line : List ℕ) → ended_fault line ≡ None → is_blank line ≡ true
unfolding ended_fault
ended-blank line e = kept (is_blank line) behind_trailer e

or-true : (b : Bool) → (b || true) ≡ true
or-true true = refl
or-true false = refl

-- one step, in each place

groups-other : (l : List ℕ) (past : List (List ℕ)) → has_type grh l ≡ false → groups_before (l ∷ past) ≡ groups_before past
groups-other l past e = omega (arith, groups-step l past false e)

groups-it : (l : List ℕ) (past : List (List ℕ)) → has_type grh l ≡ true → groups_before (l ∷ past) ≡ groups_before past + 1
groups-it l past e = omega (arith, groups-step l past true e)

none-begins : (l : List ℕ) (past : List (List ℕ)) → begins_transaction past l ≡ false → transactions_before (l ∷ past) ≡ transactions_before past
none-begins l past e = ap (λ b. cond b 1 0 + transactions_before past) e ∙ omega arith

begins-none : (l : List ℕ) → begins_transaction [] l ≡ false
unfolding begins_transaction is_ended is_open since
begins-none l = refl

begins-ended : (l : List ℕ) (past : List (List ℕ)) → is_ended past ≡ true → begins_transaction past l ≡ false
unfolding begins_transaction
begins-ended l past e = rw e refl

begins-between : (l : List ℕ) (past : List (List ℕ)) → is_ended past ≡ false → is_open past ≡ false → begins_transaction past l ≡ false
unfolding begins_transaction
begins-between l past e o = rw (e, o) refl

begins-closing : (l : List ℕ) (past : List (List ℕ)) → is_ended past ≡ false → is_open past ≡ true → has_type grt l ≡ true → begins_transaction past l ≡ false
unfolding begins_transaction
begins-closing l past e o t = rw (e, o, t) refl

begins-within : (l : List ℕ) (past : List (List ℕ)) → is_ended past ≡ false → is_open past ≡ true → has_type grt l ≡ false → begins_transaction past l ≡ has_type (open_type past) l
unfolding begins_transaction
begins-within l past e o t = rw (e, o, t) refl

one-more : (b : Bool) (t : ℕ) → cond b 1 0 + t ≡ cond b (t + 1) t
one-more true t = omega arith
one-more false t = omega arith

abbrev open_of : List (List ℕ) → OpenGroup
open_of past = record {
  kind = open_type past;
  transactions = transactions_in_group past;
  lines = lines_in_group past;
  further = next_number past;
}

open-step : (l : List ℕ) (past : List (List ℕ)) → has_type grh l ≡ false → open_of (l ∷ past) ≡ group_after (open_of past) l
unfolding group_after
open-step l past e =
    let t = in_group-other l past e ∙ one-more (has_type (open_type past) l) (transactions_in_group past) in
    rw (open_type-other l past e, t, lines-other l past e, next-other l past e) refl

open-begun : (l : List ℕ) (past : List (List ℕ)) → has_type grh l ≡ true → open_of (l ∷ past) ≡ group_begun_by l
unfolding group_begun_by
open-begun l past e = rw (open_type-it l past e, in_group-it l past e, lines-it l past e, next-it l past e) refl

stage-ended : (l : List ℕ) (past : List (List ℕ)) → is_ended (l ∷ past) ≡ true → stage_of (l ∷ past) ≡ Ended
stage-ended l past e = cond-true (is_ended (l ∷ past)) _ _ e

stage-between : (l : List ℕ) (past : List (List ℕ)) → is_ended (l ∷ past) ≡ false → is_open (l ∷ past) ≡ false → stage_of (l ∷ past) ≡ Between
stage-between l past e o = cond-false (is_ended (l ∷ past)) _ _ e ∙ cond-false (is_open (l ∷ past)) _ _ o

stage-within : (l : List ℕ) (past : List (List ℕ)) → is_ended (l ∷ past) ≡ false → is_open (l ∷ past) ≡ true → stage_of (l ∷ past) ≡ Within (open_of (l ∷ past))
stage-within l past e o = cond-false (is_ended (l ∷ past)) _ _ e ∙ cond-true (is_open (l ∷ past)) _ _ o

still : (l : List ℕ) (past : List (List ℕ)) (b : Bool) → has_type trl l ≡ false → is_ended past ≡ b → is_ended (l ∷ past) ≡ b
still l past b t e = is_ended-step l past ∙ ap (λ x. x || is_ended past) t ∙ e

is_open-same : (l : List ℕ) (past : List (List ℕ)) (b : Bool) → has_type grt l ≡ false → has_type grh l ≡ false → is_open past ≡ b → is_open (l ∷ past) ≡ b
is_open-same l past b t h e = is_open-other l past t ∙ ap (λ x. x || is_open past) h ∙ e

is_open-begun : (l : List ℕ) (past : List (List ℕ)) → has_type grt l ≡ false → has_type grh l ≡ true → is_open (l ∷ past) ≡ true
is_open-begun l past t h = is_open-other l past t ∙ ap (λ x. x || is_open past) h

after-header : (l : List ℕ) → has_type hdr l ≡ true → after_in Header (counts_of []) l ≡ counts_of (l ∷ [])
unfolding counts_of is_ended is_open since
after-header l h =
    let no_grh = other_type hdr grh l refl h in
    let no_grt = other_type hdr grt l refl h in
    let no_trl = other_type hdr trl l refl h in
    made l [] (groups_before []) 0 Between (groups-other l [] no_grh) (none-begins l [] (begins-none l))
    (stage-between l [] (still l [] false no_trl refl) (is_open-same l [] false no_grt no_grh refl))

after-ended : (l n : List ℕ) (q : List (List ℕ)) → is_ended (n ∷ q) ≡ true → is_blank l ≡ true → after_in Ended (counts_of (n ∷ q)) l ≡ counts_of (l ∷ (n ∷ q))
unfolding counts_of
after-ended l n q e blank =
    let p = n ∷ q in
    let ended : is_ended (l ∷ (n ∷ q)) ≡ true = is_ended-step l (n ∷ q) ∙ ap (λ x. has_type trl l || x) e ∙ or-true (has_type trl l) in
    made l (n ∷ q) _ _ _ (groups-other l (n ∷ q) (blank_is_no_grh l blank)) (none-begins l (n ∷ q) (begins-ended l (n ∷ q) e)) (stage-ended l (n ∷ q) ended ∙ sym (stage-ended n q e))

after-opening : (l n : List ℕ) (q : List (List ℕ)) → is_ended (n ∷ q) ≡ false → is_open (n ∷ q) ≡ false → has_type grh l ≡ true → after_in Between (counts_of (n ∷ q)) l ≡ counts_of (l ∷ (n ∷ q))
unfolding counts_of
after-opening l n q e o h =
    let no_grt = other_type grh grt l refl h in
    let no_trl = other_type grh trl l refl h in
    cond-true (has_type grh l) _ _ h
    ∙ made l (n ∷ q) _ _ _ (groups-it l (n ∷ q) h) (none-begins l (n ∷ q) (begins-between l (n ∷ q) e o))
    (stage-within l (n ∷ q) (still l (n ∷ q) false no_trl e) (is_open-begun l (n ∷ q) no_grt h) ∙ ap Within (open-begun l (n ∷ q) h))

after-trailer : (l n : List ℕ) (q : List (List ℕ)) → is_ended (n ∷ q) ≡ false → is_open (n ∷ q) ≡ false → has_type grh l ≡ false → has_type trl l ≡ true → after_in Between (counts_of (n ∷ q)) l ≡ counts_of (l ∷ (n ∷ q))
unfolding counts_of
after-trailer l n q e o h t =
    cond-false (has_type grh l) _ _ h
    ∙ made l (n ∷ q) _ _ _ (groups-other l (n ∷ q) h) (none-begins l (n ∷ q) (begins-between l (n ∷ q) e o))
    (stage-ended l (n ∷ q) (is_ended-step l (n ∷ q) ∙ ap (λ x. x || is_ended (n ∷ q)) t))

after-closing : (l n : List ℕ) (q : List (List ℕ)) → is_ended (n ∷ q) ≡ false → is_open (n ∷ q) ≡ true → has_type grt l ≡ true → after_in (Within (open_of (n ∷ q))) (counts_of (n ∷ q)) l ≡ counts_of (l ∷ (n ∷ q))
unfolding counts_of
after-closing l n q e o t =
    let no_grh = other_type grt grh l refl t in
    let no_trl = other_type grt trl l refl t in
    cond-true (has_type grt l) _ _ t
    ∙ made l (n ∷ q) _ _ _ (groups-other l (n ∷ q) no_grh) (none-begins l (n ∷ q) (begins-closing l (n ∷ q) e o t))
    (stage-between l (n ∷ q) (still l (n ∷ q) false no_trl e) (is_open-closed l (n ∷ q) t))

after-record : (l n : List ℕ) (q : List (List ℕ)) → is_ended (n ∷ q) ≡ false → is_open (n ∷ q) ≡ true → NoFrame l → after_in (Within (open_of (n ∷ q))) (counts_of (n ∷ q)) l ≡ counts_of (l ∷ (n ∷ q))
unfolding counts_of
after-record l n q e o free =
    let begun = ap (λ b. cond b 1 0 + transactions_before (n ∷ q)) (begins-within l (n ∷ q) e o free.no_grt) ∙ one-more (has_type (open_type (n ∷ q)) l) (transactions_before (n ∷ q)) in
    cond-false (has_type grt l) _ _ free.no_grt
    ∙ made l (n ∷ q) _ _ _ (groups-other l (n ∷ q) free.no_grh) begun
    (stage-within l (n ∷ q) (still l (n ∷ q) false free.no_trl e) (is_open-same l (n ∷ q) true free.no_grt free.no_grh o) ∙ ap Within (open-step l (n ∷ q) free.no_grh))

within-behind : (l n : List ℕ) (q : List (List ℕ)) → is_ended (n ∷ q) ≡ false → is_open (n ∷ q) ≡ true → group_fault (groups_before (n ∷ q)) (open_type (n ∷ q)) (transactions_in_group (n ∷ q)) (lines_in_group (n ∷ q)) (next_number (n ∷ q)) l ≡ None → after_in (Within (open_of (n ∷ q))) (counts_of (n ∷ q)) l ≡ counts_of (l ∷ (n ∷ q))
within-behind l n q e o none =
    elim (cases_Bool (has_type grt l)) [
      | inl t ↦ after-closing l n q e o t
      | inr t ↦ after-record l n q e o (record-no_frame _ _ _ _ _ l none t)
    ]

between-behind : (l n : List ℕ) (q : List (List ℕ)) → is_ended (n ∷ q) ≡ false → is_open (n ∷ q) ≡ false → between_fault (groups_before (n ∷ q)) (transactions_before (n ∷ q)) (length (n ∷ q)) l ≡ None → after_in Between (counts_of (n ∷ q)) l ≡ counts_of (l ∷ (n ∷ q))
between-behind l n q e o none =
    elim (cases_Bool (has_type grh l)) [
      | inl h ↦ after-opening l n q e o h
      | inr h ↦ after-trailer l n q e o h (between-trl _ _ _ l none h)
    ]

later-behind : (n : List ℕ) (q : List (List ℕ)) (l : List ℕ) → later_fault (n ∷ q) l ≡ None → counts_after (counts_of (n ∷ q)) l ≡ counts_of (l ∷ (n ∷ q))
unfolding later_fault counts_after counts_of
later-behind n q l none =
    let to : (s : Stage) → stage_of (n ∷ q) ≡ s → after_in (stage_of (n ∷ q)) (counts_of (n ∷ q)) l ≡ after_in s (counts_of (n ∷ q)) l = λ s e. ap (λ (x : Stage). after_in x (counts_of (n ∷ q)) l) e in
    elim (cases_Bool (is_ended (n ∷ q))) [
      | inl e ↦ to Ended (stage-ended n q e) ∙ after-ended l n q e (ended-blank l (then-part (is_ended (n ∷ q)) _ _ None none e))
      | inr e ↦ let rest = else-part (is_ended (n ∷ q)) _ _ None none e in
          elim (cases_Bool (is_open (n ∷ q))) [
            | inl o ↦ to (Within (open_of (n ∷ q))) (stage-within n q e o) ∙ within-behind l n q e o (then-part (is_open (n ∷ q)) _ _ None rest o)
            | inr o ↦ to Between (stage-between n q e o) ∙ between-behind l n q e o (else-part (is_open (n ∷ q)) _ _ None rest o)
          ]
    ]

header-behind : (l : List ℕ) → has_type hdr l ≡ true → counts_after (counts_of []) l ≡ counts_of (l ∷ [])
unfolding counts_after counts_of
header-behind l h = after-header l h

-- a line without a fault leads from the counts behind the lines to those behind one more
pub counts-behind : (sender : List ℕ) (past : List (List ℕ)) (line : List ℕ) → structure_fault sender past line ≡ None → counts_after (counts_of past) line ≡ counts_of (line ∷ past)
unfolding counts_after
counts-behind sender [] line none = header-behind line (header-hdr sender line none)
counts-behind sender (n ∷ q) line none = later-behind n q line none

sized-none : (b : Bool) (f : Option ℕ) → cond b (Some too_large) f ≡ None → f ≡ None
sized-none true f e = absurd cc
sized-none false f e = e

pub structure-none : (sender : List ℕ) (past : List (List ℕ)) (end : ℕ) (line : List ℕ) → fault_at sender past end line ≡ None → structure_fault sender past line ≡ None
structure-none sender past end line e = sized-none (is_too_large end line) _ (sym (fault-chained sender past end line) ∙ e)

pub step-behind : (sender : List ℕ) (past : List (List ℕ)) (end : ℕ) (line : List ℕ) (counts more : Counts) → counts ≡ counts_of past → counted_fault sender counts end line ≡ None → more ≡ counts_after counts line → (fault_at sender past end line ≡ None) × (more ≡ counts_of (line ∷ past))
step-behind sender past end line counts more e none is =
    let here : fault_at sender past end line ≡ None = sym (fault-behind sender past end line) ∙ ap (λ (c : Counts). counted_fault sender c end line) (sym e) ∙ none in
    (here, is ∙ ap (λ (c : Counts). counts_after c line) e ∙ counts-behind sender past line (structure-none sender past end line here))
