-- Lemmas on the JSON of answers: none of it is a float, and what is escaped of a title.
use Rattle.std.proofs.Common.{◌≡◌, ℕ, zero, suc, ◌-◌, ◌/◌, ◌%◌, ◌<◌, ◌≤◌, Bool, true, false, cond, List, [], ◌∷◌, ◌++◌, map, flat_map, Vec, Result, IfOk, Global, refl, sym, ◌∙◌, ap, subst, arith}
use Rattle.std.specs.Prelude.{◌&&◌, not, nat_le, nat_lt}
use Rattle.std.specs.Char.{is_ascii}
use Rattle.std.proofs.lemmas.Bool.{and_parts}
use Rattle.std.proofs.lemmas.Bool.Decides.{nat_tests}
use Rattle.std.proofs.lemmas.Result.{IfOk-weaker}
use Rattle.percent_encoding.specs.AsciiSet.{should_percent_encode}
use Rattle.percent_encoding.specs.Percent.{encode_byte, percent_encode, percent_encode_byte}
use Rattle.percent_encoding.specs.declared.ascii_set.AsciiSet.{AsciiSet}
use Rattle.serde_json.specs.Data.{Data, string}
use Rattle.serde_json.specs.View.{items_of}
use Rattle.serde_json.specs.Written.{compact_text, has_float, items_have_float}
use Rattle.work_ids.specs.Segments.{segment_at, segment_of, sequence_of}
use Rattle.work_ids.specs.SpelledNumber.{dated_text}
use Rattle.work_ids.specs.declared.segment.Segment.{Segment}
use Rattle.work_ids.specs.declared.segment.Segment.TheVariants.{Plain, Year}
use Rattle.http_text.specs.Json.{is_plain, number_json, number_json_in, title_byte, title_text, whole_number}
use Rattle.http_text.proofs.lemmas.NumberTextLemmas.{of_dated, of_plain}

-- an array of values that are no floats has none
pub items_without_float : {X : Type 0} (f : X → Data) (xs : List X) → ((x : X) → has_float (f x) ≡ false) → items_have_float (items_of (map f xs)) ≡ false
items_without_float f [] none = refl
items_without_float f (x ∷ xs) none = rw (none x, items_without_float f xs none) refl

-- the text of a value that is known and has no float
pub text_is : {E : Type 0} (result : Result (Vec ℕ Global) E) (value known : Data) → value ≡ known → has_float known ≡ false
    → IfOk result (λ text. has_float value ≡ false → text.items ≡ compact_text value) → IfOk result (λ text. text.items ≡ compact_text known)
text_is result value known same none made =
    IfOk-weaker result _ _ (λ text is. is none)
    (subst (λ (d : Data). IfOk result (λ text. has_float d ≡ false → text.items ≡ compact_text d)) same made)

-- ---- numbers of transmissions

pub plain_json : (rank : ℕ) → rank < 1000000 → number_json rank ≡ whole_number rank
unfolding number_json
plain_json rank h = of_plain number_json_in rank h

pub year_json : (rank : ℕ) → 1000000 ≤ rank → number_json rank ≡ string (dated_text ((rank - 1000000) / 10000) ((rank - 1000000) % 10000))
unfolding number_json
year_json rank h = of_dated number_json_in rank h

-- a number is no float
pub number_without_float : (rank : ℕ) → has_float (number_json rank) ≡ false
unfolding number_json
number_without_float rank = in_segment (segment_at (segment_of rank)) (sequence_of rank)
  where
    in_segment : (segment : Segment) (sequence : ℕ) → has_float (number_json_in segment sequence) ≡ false
    in_segment Plain sequence = refl
    in_segment (Year year) sequence = refl

-- ---- titles

-- all numbers below one pass
all_below : (ℕ → Bool) → ℕ → Bool
all_below test zero = true
all_below test (suc n) = test n && all_below test n

this_or_less : (test : ℕ → Bool) (n k : ℕ) (t : Bool) → nat_lt k n ≡ t → k < suc n → test n ≡ true → (k < n → test k ≡ true) → test k ≡ true
this_or_less test n k true e less this lower = lower (grind (arith, nat_tests))
this_or_less test n k false e less this lower =
    let same : n ≡ k = grind (arith, nat_tests) in
    subst (λ (i : ℕ). test i ≡ true) same this

below : (test : ℕ → Bool) (n : ℕ) → all_below test n ≡ true → (k : ℕ) → k < n → test k ≡ true
unfolding all_below
below test zero all k less = absurd (omega arith)
below test (suc n) all k less =
    let parts = and_parts (test n) (all_below test n) all in
    this_or_less test n k (nat_lt k n) refl less parts.0 (λ lower. below test n parts.1 k lower)

-- the set of the bytes of ASCII that are escaped: the controls and the percent sign
abbrev pub escaped : AsciiSet
escaped = record { mask = 170141183460469231731687303857618026495 }

-- whether a byte is escaped where it is not plain
abbrev told_apart : ℕ → Bool
told_apart byte = cond (should_percent_encode escaped byte) (not (is_plain byte)) (is_plain byte)

apart : (escape plain : Bool) → cond escape (not plain) plain ≡ true → escape ≡ not plain
apart true plain e = sym e
apart false plain e = rw e refl

all_told_apart : all_below told_apart 128 ≡ true
unfolding should_percent_encode all_below
all_told_apart = refl

escaped_past : (byte : ℕ) → 128 ≤ byte → should_percent_encode escaped byte ≡ true
unfolding should_percent_encode
escaped_past byte past =
    let other : is_ascii byte ≡ false = grind (arith, nat_tests) in
    rw other refl

hidden_past : (byte : ℕ) → 128 ≤ byte → is_plain byte ≡ false
hidden_past byte past =
    let over : nat_le byte 126 ≡ false = grind (arith, nat_tests) in
    let from : nat_le 32 byte ≡ true = grind (arith, nat_tests) in
    rw (over, from) refl

escaped_or_plain : (byte : ℕ) → should_percent_encode escaped byte ≡ not (is_plain byte)
escaped_or_plain byte = by_size (nat_lt byte 128) refl
  where
    by_size : (t : Bool) → nat_lt byte 128 ≡ t → should_percent_encode escaped byte ≡ not (is_plain byte)
    by_size true e = apart (should_percent_encode escaped byte) (is_plain byte) (below told_apart 128 all_told_apart byte (grind (arith, nat_tests)))
    by_size false e =
        let past : 128 ≤ byte = grind (arith, nat_tests) in
        escaped_past byte past ∙ sym (ap not (hidden_past byte past))

turned : (escape plain : Bool) (a b : List ℕ) → escape ≡ not plain → cond escape a b ≡ cond plain b a
turned escape true a b e = rw e refl
turned escape false a b e = rw e refl

title_bytes : (bytes : List ℕ) → flat_map (encode_byte escaped) bytes ≡ flat_map title_byte bytes
title_bytes [] = refl
title_bytes (byte ∷ bytes) =
    let first = turned (should_percent_encode escaped byte) (is_plain byte) (percent_encode_byte byte) (byte ∷ []) (escaped_or_plain byte) in
    ap (λ (v : List ℕ). v ++ flat_map (encode_byte escaped) bytes) first ∙ ap (λ (v : List ℕ). title_byte byte ++ v) (title_bytes bytes)

-- a title is escaped by the set
pub title_escaped : (bytes : List ℕ) → percent_encode escaped bytes ≡ title_text bytes
unfolding percent_encode
title_escaped bytes = title_bytes bytes
