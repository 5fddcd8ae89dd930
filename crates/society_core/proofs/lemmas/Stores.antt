-- A store in memory stays sound.
use Rattle.std.proofs.Common.{◌≡◌, ◌∙◌, ◌≤◌, ◌<◌, ◌&&◌, arith, nat_le, nat_lt, ℕ, Bool, true, List, Some, None, is_some, Result, Ok, Err, OnOk, OnErr, is_none, ap, refl, subst, sym}
use Rattle.cwr_files.specs.FileFault.{file_fault}
use Rattle.perf_returns.specs.Returns.{return_fault}
use Rattle.society_core.specs.Answers.{close_refusal}
use Rattle.society_core.specs.Book.{Book, IsSound, body_at, end_at, is_end_entry, is_entry, is_read_as, is_reporter, is_return_entry, return_at, with_end, with_pool, with_return, with_transmission}
use Rattle.society_core.specs.Orders.{IsOrder, Order}
use Rattle.society_core.specs.declared.return_key.ReturnKey.{ReturnKey}
use Rattle.work_ids.specs.Numbers.{is_from_one_to, is_pool_number, is_return_number}
use Rattle.work_ids.specs.SegmentEnds.{StatedEnd}
use Rattle.work_ids.specs.Segments.{is_transmission_number, most_in, segment_of, sequence_of}
use Rattle.sender_segments.specs.Ways.{end_stated}
use Rattle.society_core.specs.Ends.{ended_before, fault_stated, number_past, place_stated}
use Rattle.work_ids.specs.Blanks.{without_trailing_blanks}
use Rattle.work_ids.specs.Reporter.{reporter_of}
use Rattle.work_ids.specs.SenderKey.{is_sender_key}
use Rattle.work_ids.specs.declared.fault.IdFault.{IdFault}
use Rattle.std.proofs.lemmas.Bool.{false≢true}
use Rattle.std.proofs.lemmas.Slice.Eq.{bytes_eq-Decides}
use Rattle.std.proofs.lemmas.Bool.Decides.{nat_tests}
use Rattle.society_core.proofs.lemmas.Books.{some_body, sound_with, sound_with_end, sound_with_pool, sound_with_return}
use Rattle.society_core.proofs.lemmas.Changes.{stated_possible, stated_year}
use Rattle.society_core.proofs.lemmas.Closes.{entry_of_close, no_payer}
use Rattle.society_core.proofs.lemmas.Fronts.{both_hold, first_holds}
use Rattle.society_core.proofs.lemmas.HeadlineLemmas.{is_not_ended, past_is_none}

-- a book that is the next one where an addition went well, and else the old one, is sound where both are
pub sound_either : {T E : Type 0} (r : Result T E) (old new next : Book) → OnOk r (new ≡ next) → OnErr r (new ≡ old) → IsSound old → IsSound next → IsSound new
sound_either (Ok x) old new next ok err sound after = subst IsSound (sym ok) after
sound_either (Err e) old new next ok err sound after = subst IsSound (sym err) sound

pub sound_after_return : {T E : Type 0} (r : Result T E) (old new : Book) (key : ReturnKey) (body : List ℕ) → OnOk r (new ≡ with_return old key body) → OnErr r (new ≡ old) → IsSound old → return_at old key ≡ None → is_return_entry key body ≡ true → IsSound new
sound_after_return r old new key body ok err sound free entry =
    sound_either r old new (with_return old key body) ok err sound (sound_with_return old key body sound free entry)

pub sound_after_pool : {T E : Type 0} (r : Result T E) (old new : Book) (pool : ℕ) (order : Order) → OnOk r (new ≡ with_pool old pool order) → OnErr r (new ≡ old) → IsSound old → is_pool_number pool ≡ true → IsOrder order → close_refusal old order ≡ None → IsSound new
sound_after_pool r old new pool order ok err sound number is free =
    sound_either r old new (with_pool old pool order) ok err sound
    (sound_with_pool old pool order sound (entry_of_close old pool order number free) is (no_payer old order free))

pub sound_after : {T E : Type 0} (r : Result T E) (old new : Book) (s : List ℕ) (n : ℕ) (body : List ℕ) → OnOk r (new ≡ with_transmission old s n body) → OnErr r (new ≡ old) → IsSound old → IsSound (with_transmission old s n body) → IsSound new
sound_after r old new s n body ok err sound after = sound_either r old new (with_transmission old s n body) ok err sound after

-- the book after a transmission that may be added is sound
pub sound_taken : (b : Book) (s : List ℕ) (n : ℕ) (body : List ℕ) → IsSound b → body_at b s n ≡ None → is_entry s n body ≡ true → ended_before b s n ≡ None → IsSound (with_transmission b s n body)
sound_taken b s n body sound free entry within =
    sound_with b s n body sound free entry (λ e stated. is_not_ended (sequence_of n) (end_at b s (segment_of n)) within e stated)

-- what is stated without a fault by a sender may stand in a book
pub end_entry : (s : List ℕ) (stated : StatedEnd) → is_sender_key s ≡ true → fault_stated stated ≡ None → is_end_entry s (place_stated stated) (end_stated stated) ≡ true
end_entry s stated key right =
    let possible = stated_possible stated right in
    let year = stated_year stated right in
    let last = possible.last in
    let later = possible.later in
    five (is_sender_key s) (nat_le (place_stated stated) 100) (nat_le stated.last (most_in (place_stated stated))) (nat_lt (place_stated stated) (end_stated stated).next) (nat_le (end_stated stated).next 100)
    key (le_holds (place_stated stated) 100 (omega (arith, later, year))) (le_holds stated.last (most_in (place_stated stated)) last) (lt_holds (place_stated stated) (end_stated stated).next later) (le_holds (end_stated stated).next 100 year)
  where
    five : (a b c d e : Bool) → a ≡ true → b ≡ true → c ≡ true → d ≡ true → e ≡ true → (a && b && c && d && e) ≡ true
    five a b c d e one two three four last = cc

    le_holds : (a b : ℕ) → a ≤ b → nat_le a b ≡ true
    le_holds a b h = grind (arith, nat_tests)

    lt_holds : (a b : ℕ) → a < b → nat_lt a b ≡ true
    lt_holds a b h = grind (arith, nat_tests)

-- the book after an end that may be added is sound
pub sound_stated : (b : Book) (s : List ℕ) (stated : StatedEnd) → IsSound b → end_at b s (place_stated stated) ≡ None → is_sender_key s ≡ true → fault_stated stated ≡ None → number_past b s (place_stated stated) stated.last ≡ None → IsSound (with_end b s (place_stated stated) (end_stated stated))
sound_stated b s stated sound free key right none =
    sound_with_end b s (place_stated stated) (end_stated stated) sound free (end_entry s stated key right) (λ n there same. past_is_none b s (place_stated stated) stated.last n none there same)

pub sound_after_end : {T E : Type 0} (r : Result T E) (old new : Book) (s : List ℕ) (stated : StatedEnd) → OnOk r (new ≡ with_end old s (place_stated stated) (end_stated stated)) → OnErr r (new ≡ old) → IsSound old → IsSound (with_end old s (place_stated stated) (end_stated stated)) → IsSound new
sound_after_end r old new s stated ok err sound after = sound_either r old new (with_end old s (place_stated stated) (end_stated stated)) ok err sound after

-- a number that is 1 to a limit passes
pub from_one : (most n : ℕ) → 1 ≤ n → n ≤ most → is_from_one_to most n ≡ true
from_one most n low high =
    both_hold (nat_le 1 n) (nat_le n most) (grind (arith, nat_tests)) (grind (arith, nat_tests))

-- what its own text is read as is a reporter
pub reporter_reads : (bytes reporter : List ℕ) → bytes ≡ without_trailing_blanks reporter → reporter_of bytes ≡ Ok reporter → is_reporter reporter ≡ true
reporter_reads bytes reporter is back =
    ap (is_read_as reporter) (ap reporter_of (sym is) ∙ back) ∙ (bytes_eq-Decides reporter reporter).1 refl

-- and a reporter is that
pub reporter_back : (reporter : List ℕ) → is_reporter reporter ≡ true → reporter_of (without_trailing_blanks reporter) ≡ Ok reporter
reporter_back reporter is = by_case (reporter_of (without_trailing_blanks reporter)) refl
  where
    by_case : (r : Result (List ℕ) IdFault) → reporter_of (without_trailing_blanks reporter) ≡ r → reporter_of (without_trailing_blanks reporter) ≡ Ok reporter
    by_case (Ok read) e = e ∙ ap (λ (x : List ℕ). Ok x) ((bytes_eq-Decides read reporter).0 (sym (ap (is_read_as reporter) e) ∙ is))
    by_case (Err fault) e = absurd (false≢true (sym (ap (is_read_as reporter) e) ∙ is))

-- the reporter of a return of a sound book is what its own text is read as
pub sound_reporter : (b : Book) (key : ReturnKey) (body : List ℕ) → IsSound b → return_at b key ≡ Some body → reporter_of (without_trailing_blanks key.reporter) ≡ Ok key.reporter
sound_reporter b key body sound there =
    reporter_back key.reporter
    (first_holds (is_reporter key.reporter) (is_return_number key.number) (first_holds (is_reporter key.reporter && is_return_number key.number) (is_none (return_fault body)) (sound.returns key body there)))

pub there_reporter : (b : Book) (key : ReturnKey) → IsSound b → is_some (return_at b key) ≡ true → reporter_of (without_trailing_blanks key.reporter) ≡ Ok key.reporter
there_reporter b key sound here =
    let body = some_body (return_at b key) here in
    sound_reporter b key body.0 sound body.1

-- a reporter, a number and a fault that is none make a return's entry
pub return_entry : (key : ReturnKey) (bytes body : List ℕ) → bytes ≡ without_trailing_blanks key.reporter → reporter_of bytes ≡ Ok key.reporter → 1 ≤ key.number → key.number ≤ 999999 → return_fault body ≡ None
    → is_return_entry key body ≡ true
return_entry key bytes body is back low high right =
    both_hold (is_reporter key.reporter && is_return_number key.number) (is_none (return_fault body))
    (both_hold (is_reporter key.reporter) (is_return_number key.number) (reporter_reads bytes key.reporter is back) (from_one 999999 key.number low high)) (ap is_none right)

-- a sender, a number and a fault that is none make a transmission's entry
pub transmission_entry : (s : List ℕ) (n : ℕ) (body : List ℕ) → is_sender_key s ≡ true → is_transmission_number n ≡ true → file_fault s body ≡ None → is_entry s n body ≡ true
transmission_entry s n body key number right =
    both_hold (is_sender_key s && is_transmission_number n) (is_none (file_fault s body))
    (both_hold (is_sender_key s) (is_transmission_number n) key number) (ap is_none right)
