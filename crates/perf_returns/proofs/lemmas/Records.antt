-- The records of a text, as far as they were read.
use Rattle.std.proofs.Common.{◌≡◌, ℕ, zero, suc, ◌+◌, ◌<◌, ◌≤◌, ◌==◌, Bool, true, false, cond, ◌&&◌, List, [], ◌∷◌, ◌++◌, length, Some, None, refl, ap, sym, subst, ◌∙◌, arith, ⊎_elim}
use Rattle.std.proofs.lemmas.Bool.{cases_Bool, false≢true}
use Rattle.std.proofs.lemmas.List.{append-nil}
use Rattle.csv.specs.Machine.{Read, after_end, carriage_return, ends_at_end, ends_with, field_after, fields_after, in_field, is_byte, is_end, line_feed, next_record, start_field, start_record, step}
use Rattle.csv.specs.Reading.{Reached, default_config, records, records_from, records_next}
use Rattle.csv.specs.declared.parser.Action.{Action}
use Rattle.csv.specs.declared.parser.Action.TheVariants as act
use Rattle.csv.specs.declared.parser.Config.{Config}
use Rattle.csv.specs.declared.parser.State.{State}
use Rattle.csv.specs.declared.parser.State.TheVariants as st
use Rattle.csv.specs.declared.parser.Terminator.{Terminator}
use Rattle.csv.specs.declared.parser.Terminator.TheVariants as term

-- a test chooses one of two things that both are so
either : {A : Type 0} (P : A → Type 0) (b : Bool) (x y : A) → P x → P y → P (cond b x y)
either P true x y h g = h
either P false x y h g = g

-- the end of a record leaves the machine between records
abbrev EndsBetween : State × Action → Type 0
EndsBetween p = is_end p.1 ≡ true → ends_at_end p.0 ≡ false

after_end_between : (t : Terminator) (c : ℕ) → ends_at_end (after_end t c) ≡ false
after_end_between term.CRLF c = either (λ (s : State). ends_at_end s ≡ false) (c == carriage_return) st.AfterCr st.StartRecord refl refl
after_end_between (term.Any t) c = refl

in_field_ends : (cfg : Config) (c : ℕ) → EndsBetween (in_field cfg c)
in_field_ends cfg c =
    either EndsBetween (c == cfg.delimiter) (st.StartField, act.EndField)
    (cond (ends_with cfg.terminator c) (after_end cfg.terminator c, act.EndRecord) (st.InField, act.Copy))
    (λ e. absurd (false≢true e))
    (either EndsBetween (ends_with cfg.terminator c) (after_end cfg.terminator c, act.EndRecord) (st.InField, act.Copy)
    (λ e. after_end_between cfg.terminator c) (λ e. absurd (false≢true e)))

start_field_ends : (cfg : Config) (c : ℕ) → EndsBetween (start_field cfg c)
start_field_ends cfg c =
    either EndsBetween (cfg.quoting && (c == cfg.quote)) (st.InQuoted, act.Skip) (in_field cfg c)
    (λ e. absurd (false≢true e)) (in_field_ends cfg c)

start_record_ends : (cfg : Config) (c : ℕ) → EndsBetween (start_record cfg c)
start_record_ends cfg c =
    either EndsBetween (ends_with cfg.terminator c) (st.StartRecord, act.Skip)
    (cond (is_byte cfg.comment c) (st.InComment, act.Skip) (start_field cfg c))
    (λ e. absurd (false≢true e))
    (either EndsBetween (is_byte cfg.comment c) (st.InComment, act.Skip) (start_field cfg c)
    (λ e. absurd (false≢true e)) (start_field_ends cfg c))

in_quoted_ends : (cfg : Config) (c : ℕ) → EndsBetween (step cfg st.InQuoted c)
in_quoted_ends cfg c =
    either EndsBetween (cfg.quoting && (c == cfg.quote)) (st.AfterQuote, act.Skip)
    (cond (cfg.quoting && is_byte cfg.escape c) (st.InEscape, act.Skip) (st.InQuoted, act.Copy))
    (λ e. absurd (false≢true e))
    (either EndsBetween (cfg.quoting && is_byte cfg.escape c) (st.InEscape, act.Skip) (st.InQuoted, act.Copy)
    (λ e. absurd (false≢true e)) (λ e. absurd (false≢true e)))

step_ends : (cfg : Config) (s : State) (c : ℕ) → EndsBetween (step cfg s c)
step_ends cfg st.StartRecord c = start_record_ends cfg c
step_ends cfg st.StartField c = start_field_ends cfg c
step_ends cfg st.InField c = in_field_ends cfg c
step_ends cfg st.InQuoted c = in_quoted_ends cfg c
step_ends cfg st.InEscape c = λ e. absurd (false≢true e)
step_ends cfg st.AfterQuote c =
    either EndsBetween (cfg.quoting && cfg.double_quote && (c == cfg.quote)) (st.InQuoted, act.Copy) (in_field cfg c)
    (λ e. absurd (false≢true e)) (in_field_ends cfg c)
step_ends cfg st.InComment c =
    either EndsBetween (c == line_feed) (st.StartRecord, act.Skip) (st.InComment, act.Skip)
    (λ e. absurd (false≢true e)) (λ e. absurd (false≢true e))
step_ends cfg st.AfterCr c =
    either EndsBetween (c == line_feed) (st.StartRecord, act.Skip) (start_record cfg c)
    (λ e. absurd (false≢true e)) (start_record_ends cfg c)

-- one within a record, none between records
abbrev weight : State → ℕ
weight s = cond (ends_at_end s) 1 0

weight_within : (s : State) → weight s ≤ 1
weight_within s = either (λ (n : ℕ). n ≤ 1) (ends_at_end s) 1 0 (omega arith) (omega arith)

found_at_end : (b : Bool) (x r : Read) → cond b (Some x) None ≡ Some r → (b ≡ true) × (x ≡ r)
found_at_end true x r e = (refl, cc)
found_at_end false x r e = absurd cc

-- a record that is read leaves less of the text
shrinks : (cfg : Config) (s : State) (fields : List (List ℕ)) (field : List ℕ) (xs : List ℕ) (r : Read) → next_record cfg s fields field xs ≡ Some r → length r.2 + weight r.1 < length xs + weight s
unfolding next_record
shrinks cfg s fields field [] r e =
    let found = found_at_end (ends_at_end s) _ r e in
    let full : weight s ≡ 1 = ap (λ (b : Bool). cond b 1 0) found.0 in
    subst (λ (q : Read). length q.2 + weight q.1 < 0 + weight s) found.1 (omega (arith, full))
shrinks cfg s fields field (c ∷ rest) r e =
    let act = (step cfg s c).1 in
    ⊎_elim
    (λ (yes : is_end (step cfg s c).1 ≡ true).
    let here = sym (ap (λ (b : Bool). cond b (Some (fields_after (step cfg s c).1 fields field, (step cfg s c).0, rest)) (next_record cfg (step cfg s c).0 (fields_after (step cfg s c).1 fields field) (field_after (step cfg s c).1 c field) rest)) yes) ∙ e in
    let same : (fields_after (step cfg s c).1 fields field, (step cfg s c).0, rest) ≡ r = cc in
    let none : weight (step cfg s c).0 ≡ 0 = ap (λ (b : Bool). cond b 1 0) (step_ends cfg s c yes) in
    subst (λ (q : Read). length q.2 + weight q.1 < suc (length rest) + weight s) same (omega (arith, none)))
    (λ (no : is_end (step cfg s c).1 ≡ false).
    let later = sym (ap (λ (b : Bool). cond b (Some (fields_after (step cfg s c).1 fields field, (step cfg s c).0, rest)) (next_record cfg (step cfg s c).0 (fields_after (step cfg s c).1 fields field) (field_after (step cfg s c).1 c field) rest)) no) ∙ e in
    let less = shrinks cfg (step cfg s c).0 (fields_after (step cfg s c).1 fields field) (field_after (step cfg s c).1 c field) rest r later in
    omega (arith, less, weight_within (step cfg s c).0))
    (cases_Bool (is_end (step cfg s c).1))

-- the records of a text begin with those that were read, and go on with those of what is left
records_reached : (cfg : Config) (n : ℕ) (s : State) (xs : List ℕ) (rs : List (List (List ℕ))) (s2 : State) (ys : List ℕ) → Reached cfg s xs rs s2 ys → length xs + weight s < n → (m : ℕ) × (records_from cfg n s xs ≡ rs ++ records_from cfg m s2 ys)
unfolding Reached records_from
records_reached cfg n s xs [] s2 ys h room = (n, rw (h.0, h.1) refl)
records_reached cfg zero s xs (r ∷ rs) s2 ys h room = absurd (omega arith)
records_reached cfg (suc n) s xs (r ∷ rs) s2 ys h room =
    let less = shrinks cfg s [] [] xs h.0 h.1 in
    let more = records_reached cfg n h.0.1 h.0.2 rs s2 ys h.3 (omega arith) in
    (more.0, ap (records_next (records_from cfg n)) h.1 ∙ ap (λ (t : List (List (List ℕ))). h.0.0 ∷ t) more.1 ∙ ap (λ (t : List (List ℕ)). t ∷ (rs ++ records_from cfg more.0 s2 ys)) (sym h.2))

records_end : (cfg : Config) (m : ℕ) (s : State) (ys : List ℕ) → next_record cfg s [] [] ys ≡ None → records_from cfg m s ys ≡ []
unfolding records_from
records_end cfg zero s ys h = refl
records_end cfg (suc m) s ys h = ap (records_next (records_from cfg m)) h

-- the records of a text begin with those that were read
pub records_begin : (text : List ℕ) (rs : List (List (List ℕ))) (s : State) (ys : List ℕ) → Reached default_config st.StartRecord text rs s ys → (more : List (List (List ℕ))) × (records default_config text ≡ rs ++ more)
records_begin text rs s ys h =
    let found = records_reached default_config (length text + 1) st.StartRecord text rs s ys h (omega arith) in
    (records_from default_config found.0 s ys, found.1)

-- and are these, where no further one is there
pub records_are : (text : List ℕ) (rs : List (List (List ℕ))) (s : State) (ys : List ℕ) → Reached default_config st.StartRecord text rs s ys → next_record default_config s [] [] ys ≡ None → records default_config text ≡ rs
records_are text rs s ys h end =
    let found = records_reached default_config (length text + 1) st.StartRecord text rs s ys h (omega arith) in
    found.1 ∙ ap (λ (t : List (List (List ℕ))). rs ++ t) (records_end default_config found.0 s ys end) ∙ append-nil rs
