-- Lines are found where their line feeds are, and are what came.
use Rattle.std.proofs.Common.{◌≡◌, ◌∙◌, ◌+◌, ◌-◌, ◌<◌, ◌≤◌, ℕ, Bool, List, [], ◌∷◌, ◌++◌, ⊎_elim, ap, append_assoc, append-nil, arith, drop, Err, false, inl, inr, length, Ok, refl, Result, subst, sym, take, true}
use Rattle.std.proofs.Math.ListN.{get_or-append}
use Rattle.std.proofs.lemmas.Bool.{cases_lt, eqb-true}
use Rattle.std.proofs.lemmas.Grind.{flat_map-append}
use Rattle.std.proofs.lemmas.List.{get_or-drop, get_or-take, length-drop, length-take, length-take-le, nil_from_length, take-append-drop, take_all}
use Rattle.std.proofs.Math.Seq.{drop-length}
use Rattle.std.specs.Io.KnownBytes.{Consumes, IsAtEnd}
use Rattle.std.specs.List.{AllByRecursion}
use Rattle.std.specs.Prelude.{IfErr, slice_index}
use Rattle.std.specs.Result.{IsErrAnd}
use Rattle.http_desk.proofs.lemmas.Known.{Consumes-join, Consumes-none}
use Rattle.http_desk.specs.Counted.{Known, bytes_known}
use Rattle.http_desk.specs.Input.{all_of, unread}
use Rattle.http_desk.specs.declared.counted.Counted.{Counted}
use Rattle.http_desk.specs.declared.fault.FaultKind.{FaultKind}
use Rattle.http_desk.specs.declared.input.Input.{Input}
use Rattle.memchr.specs.Find.{Nowhere, Passes, is_byte}
use Rattle.sqlite_trees.proofs.ListLemmas.{all-append}
use Rattle.credit_listing.specs.Lines.{AreLines, AreRead, AreTaken, ComesBehind, IsNext, IsReadFault, IsWholeLine, NoFeed}

-- ---- where the line feeds are

-- what is left behind a place
pub rest_is : (seen : ℕ) (bytes : List ℕ) → take (length bytes - seen) (drop seen bytes) ≡ drop seen bytes
rest_is seen bytes = take_all (length bytes - seen) (drop seen bytes) (let long = length-drop seen bytes in omega (arith, long))

feed : (byte : ℕ) → byte ≡ 10 → is_byte 10 byte ≡ true
feed byte is = subst (λ (b : ℕ). is_byte 10 b ≡ true) (sym is) refl

-- nothing was found up to a place behind what was searched before
no_feed_on : (bytes : List ℕ) (seen more : ℕ) → NoFeed bytes seen → Nowhere (Passes (is_byte 10) (drop seen bytes)) 0 more → NoFeed bytes (seen + more)
no_feed_on bytes seen more before nowhere place below is = ⊎_elim (λ (low : place < seen). before place low is) high (cases_lt place seen)
  where
    high : seen ≤ place → ⊥
    high low =
        let here : seen + (place - seen) ≡ place = omega (arith, low) in
        nowhere (place - seen) (omega arith) (omega (arith, low, below)) (feed (slice_index (drop seen bytes) (place - seen)) (get_or-drop seen bytes (place - seen) 0 ∙ ap (λ (n : ℕ). slice_index bytes n) here ∙ is))

-- the line that ends with the first line feed that was found
pub found_line : (bytes : List ℕ) (seen place : ℕ) → NoFeed bytes seen → seen + place < length bytes → Nowhere (Passes (is_byte 10) (drop seen bytes)) 0 place → Passes (is_byte 10) (drop seen bytes) place
    → IsWholeLine (take (seen + place + 1) bytes)
found_line bytes seen place before within nowhere is_feed = (omega (arith, long), at_end, none)
  where
    long : length (take (seen + place + 1) bytes) ≡ seen + place + 1
    long = length-take-le (seen + place + 1) bytes (omega (arith, within))

    last : length (take (seen + place + 1) bytes) - 1 ≡ seen + place
    last = omega (arith, long)

    at_end : slice_index (take (seen + place + 1) bytes) (length (take (seen + place + 1) bytes) - 1) ≡ 10
    at_end =
        ap (λ (n : ℕ). slice_index (take (seen + place + 1) bytes) n) last
        ∙ get_or-take (seen + place + 1) bytes (seen + place) 0 (omega arith)
        ∙ sym (get_or-drop seen bytes place 0)
        ∙ eqb-true (slice_index (drop seen bytes) place) 10 is_feed

    none : NoFeed (take (seen + place + 1) bytes) (length (take (seen + place + 1) bytes) - 1)
    none at below is =
        no_feed_on bytes seen place before nowhere at (omega (arith, long, below)) (sym (get_or-take (seen + place + 1) bytes at 0 (omega (arith, long, below))) ∙ is)

-- all that was searched has none
pub searched : (bytes : List ℕ) (seen : ℕ) → seen ≤ length bytes → NoFeed bytes seen → Nowhere (Passes (is_byte 10) (drop seen bytes)) 0 (length (drop seen bytes)) → NoFeed bytes (length bytes)
searched bytes seen within before nowhere =
    subst (NoFeed bytes) (let long = length-drop seen bytes in omega (arith, within, long)) (no_feed_on bytes seen (length (drop seen bytes)) before nowhere)

-- and so it is the last line
pub last_line : (bytes : List ℕ) (count : ℕ) → count ≡ length bytes → NoFeed bytes count → NoFeed (take count bytes) (length (take count bytes))
last_line bytes count is none at below found =
    let long : length (take count bytes) ≡ count = length-take-le count bytes (omega (arith, is)) in
    none at (omega (arith, long, below)) (sym (get_or-take count bytes at 0 (omega (arith, long, below))) ∙ found)

-- what comes behind changes nothing of it
pub still_none : (bytes more : List ℕ) (count : ℕ) → count ≤ length bytes → NoFeed bytes count → NoFeed (bytes ++ more) count
still_none bytes more count within none at below found = none at below (sym (get_or-append bytes more 0 at (omega (arith, within, below))) ∙ found)

-- a line of no byte is the last
pub is_the_last : (last : Bool) (bytes : List ℕ) (count : ℕ) → count ≡ 0 → IsNext last (take count bytes) → last ≡ true
is_the_last true bytes count none line = refl
is_the_last false bytes count none line =
    let some : 0 < length (take count bytes) = line.0 in
    absurd (let long = length-take count bytes in omega (arith, none, some, long))

-- lines that have their ends are lines
pub whole_lines : (lines : List (List ℕ)) → AllByRecursion IsWholeLine lines → AreLines lines
whole_lines [] each = tt
whole_lines (line ∷ []) each = inl each.0
whole_lines (line ∷ next ∷ lines) each = (each.0, whole_lines (next ∷ lines) each.1)

-- and also with one behind them that has no end
pub then_last : (lines : List (List ℕ)) (last : List ℕ) → AllByRecursion IsWholeLine lines → NoFeed last (length last) → AreLines (lines ++ last ∷ [])
then_last [] last each none = inr none
then_last (line ∷ []) last each none = (each.0, inr none)
then_last (line ∷ next ∷ lines) last each none = (each.0, then_last (next ∷ lines) last each.1 none)

-- ---- what did not

-- why no line could be read is what is told
pub told_so : {X : Type 0} (kind : FaultKind) (r : Result X FaultKind) (failures new_failures : ℕ) → IsReadFault kind failures new_failures → IsErrAnd r (λ e. e ≡ kind)
    → IfErr r (λ e. IsReadFault e failures new_failures)
told_so kind (Ok x) failures new_failures is told = tt
told_so kind (Err e) failures new_failures is told = subst (λ (k : FaultKind). IsReadFault k failures new_failures) (sym told) is

-- ---- what came

module _ {R : Type 0} (remaining : Known R) where
  pub comes_on : (reader mid new_reader : Counted R) (input between new_input : Input) → ComesBehind remaining reader mid input between → ComesBehind remaining mid new_reader between new_input
      → ComesBehind remaining reader new_reader input new_input
  comes_on reader mid new_reader input between new_input first then = (
    first.0 ++ then.0,
    then.1 ∙ ap (λ (b : List ℕ). b ++ then.0) first.1 ∙ append_assoc (unread input) first.0 then.0,
    Consumes-join (bytes_known remaining reader) (bytes_known remaining mid) (bytes_known remaining new_reader) first.0 then.0 first.2 then.2,
  )

  pub comes_none : (reader : Counted R) (input : Input) → ComesBehind remaining reader reader input input
  comes_none reader input = ([], sym (append-nil (unread input)), Consumes-none (bytes_known remaining reader))

  -- what was read and taken is what came
  taken_bytes : (reader mid new_reader : Counted R) (input between new_input : Input) (lines : List (List ℕ)) (count : ℕ) → AreTaken remaining reader mid input lines → ComesBehind remaining mid new_reader input between
      → unread new_input ≡ drop count (unread between)
      → Consumes (bytes_known remaining reader) (bytes_known remaining new_reader) (all_of (lines ++ take count (unread between) ∷ []) ++ unread new_input)
  taken_bytes reader mid new_reader input between new_input lines count taken comes rest =
      subst (Consumes (bytes_known remaining reader) (bytes_known remaining new_reader)) same (Consumes-join (bytes_known remaining reader) (bytes_known remaining mid) (bytes_known remaining new_reader) (all_of lines ++ unread input) comes.0 taken.all comes.2)
    where
      here : List ℕ
      here = take count (unread between)

      same : (all_of lines ++ unread input) ++ comes.0 ≡ all_of (lines ++ here ∷ []) ++ unread new_input
      same =
          append_assoc (all_of lines) (unread input) comes.0
          ∙ ap (λ (l : List ℕ). all_of lines ++ l) (sym comes.1 ∙ sym (take-append-drop count (unread between)) ∙ ap (λ (l : List ℕ). here ++ l) (sym rest) ∙ ap (λ (l : List ℕ). l ++ unread new_input) (sym (append-nil here)))
          ∙ sym (append_assoc (all_of lines) (here ++ []) (unread new_input))
          ∙ ap (λ (l : List ℕ). l ++ unread new_input) (sym (flat_map-append (λ (l : List ℕ). l) lines (here ∷ [])))

  -- a line was read and taken
  pub taken_line : (reader mid new_reader : Counted R) (input between new_input : Input) (lines : List (List ℕ)) (count : ℕ) (last : Bool) → AreTaken remaining reader mid input lines
      → ComesBehind remaining mid new_reader input between → last ≡ false → IsNext last (take count (unread between)) → unread new_input ≡ drop count (unread between)
      → AreTaken remaining reader new_reader new_input (lines ++ take count (unread between) ∷ [])
  taken_line reader mid new_reader input between new_input lines count last taken comes more line rest = record {
    each = all-append IsWholeLine lines (take count (unread between) ∷ []) taken.each (subst (λ (b : Bool). IsNext b (take count (unread between))) more line, tt);
    all = taken_bytes reader mid new_reader input between new_input lines count taken comes rest;
  }

  -- the last one was
  pub taken_last : (reader mid new_reader : Counted R) (input between new_input : Input) (lines : List (List ℕ)) (count : ℕ) (last : Bool) → AreTaken remaining reader mid input lines
      → ComesBehind remaining mid new_reader input between → last ≡ true → IsNext last (take count (unread between)) → unread new_input ≡ drop count (unread between) → count ≡ length (unread between)
      → IsAtEnd (bytes_known remaining new_reader) → AreRead remaining reader new_reader (lines ++ take count (unread between) ∷ [])
  taken_last reader mid new_reader input between new_input lines count last taken comes none line rest all ended = record {
    each = then_last lines (take count (unread between)) taken.each (subst (λ (b : Bool). IsNext b (take count (unread between))) none line);
    all =
        subst (Consumes (bytes_known remaining reader) (bytes_known remaining new_reader))
        (ap (λ (l : List ℕ). all_of (lines ++ take count (unread between) ∷ []) ++ l) (rest ∙ ap (λ (n : ℕ). drop n (unread between)) all ∙ drop-length (unread between)) ∙ append-nil (all_of (lines ++ take count (unread between) ∷ [])))
        (taken_bytes reader mid new_reader input between new_input lines count taken comes rest);
    ended = ended;
  }

  -- none yet
  pub taken_none : (reader : Counted R) (input : Input) → unread input ≡ [] → AreTaken remaining reader reader input []
  taken_none reader input empty = record { each = tt; all = subst (Consumes (bytes_known remaining reader) (bytes_known remaining reader)) (sym empty) (Consumes-none (bytes_known remaining reader)) }

  -- all of them were, and nothing is left
  pub all_read : (reader mid new_reader : Counted R) (input new_input : Input) (lines : List (List ℕ)) (count : ℕ) (last : Bool) → AreTaken remaining reader mid input lines
      → ComesBehind remaining mid new_reader input new_input → count ≡ 0 → IsNext last (take count (unread new_input))
      → (last ≡ true → (count ≡ length (unread new_input)) × IsAtEnd (bytes_known remaining new_reader)) → AreRead remaining reader new_reader lines
  all_read reader mid new_reader input new_input lines count last taken comes none line left = record {
    each = whole_lines lines taken.each;
    all =
        subst (Consumes (bytes_known remaining reader) (bytes_known remaining new_reader))
        (append_assoc (all_of lines) (unread input) comes.0 ∙ ap (λ (l : List ℕ). all_of lines ++ l) (sym comes.1 ∙ empty) ∙ append-nil (all_of lines))
        (Consumes-join (bytes_known remaining reader) (bytes_known remaining mid) (bytes_known remaining new_reader) (all_of lines ++ unread input) comes.0 taken.all comes.2);
    ended = here.1;
  }
    where
      here : (count ≡ length (unread new_input)) × IsAtEnd (bytes_known remaining new_reader)
      here = left (is_the_last last (unread new_input) count none line)

      empty : unread new_input ≡ []
      empty = nil_from_length (unread new_input) (sym here.0 ∙ none)
