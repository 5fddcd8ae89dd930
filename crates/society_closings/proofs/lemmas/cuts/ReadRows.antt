-- The rows of versions and of recordings that are derived from a sound book can be read.
use Rattle.std.proofs.Common.{◌≡◌, not, is_ok, ◌||◌, is_none, ◌∙◌, ◌<◌, ◌≤◌, ◌+◌, ◌*◌, ◌^◌, ◌++◌, ◌&&◌, ◌==◌, ℕ, pos, Bool, true, false, cond, eqb, nat_le, List, [], ◌∷◌, Option, Some, None, Ok, Err, IsOk, FitsSigned, w64, refl, ap, sym, subst, arith, map, flat_map, length, append-nil, append_assoc, length-append, unwrap_or}
use Rattle.std.proofs.lemmas.Bool.{false≢true, leb-true, or_right}
use Rattle.std.proofs.lemmas.List.{length-map}
use Rattle.std.proofs.lemmas.List.FromFn.{length-enumerate_from}
use Rattle.std.proofs.lemmas.Slice.Eq.{bytes_eq-Decides}
use Rattle.std.specs.List.{AllByRecursion, enumerate_from, list_all}
use Rattle.cwr_files.proofs.lemmas.Judged.{holds}
use Rattle.cwr_files.specs.Contents.{group_of, numbered_transactions, transaction_of, transactions_of, transmission_in}
use Rattle.cwr_files.specs.File.{AreGroups, AreTransactions, GroupLines, IsGroup, group_lines}
use Rattle.cwr_files.specs.FileFault.{file_fault}
use Rattle.cwr_files.specs.RecordTypes.{is_read, type_of_group}
use Rattle.cwr_files.specs.Transaction.{first_work, submitter_number}
use Rattle.cwr_files.specs.declared.transmission.Group.{Group}
use Rattle.cwr_files.specs.declared.transmission.Transaction.{Transaction}
use Rattle.cwr_files.specs.declared.transmission.Transmission.{Transmission}
use Rattle.cwr_files.specs.Lines.{line_of_piece, onto_first, pieces}
use Rattle.cwr_files.specs.Records.{kind_of}
use Rattle.sender_segments.specs.Ascends.{Ascends}
use Rattle.sender_segments.specs.Ways.{AreRight}
use Rattle.share_rules.specs.Fault.{fault_of}
use Rattle.share_rules.specs.declared.office.Office.{Office}
use Rattle.society_book.proofs.lemmas.lines.LineRows.{line_goes, placed_over, sent, verdicts_go}
use Rattle.society_book.proofs.lemmas.rows_alike.RowLemmas.{all_rows}
use Rattle.society_book.specs.Columns.{text_at}
use Rattle.society_book.specs.DerivedRows.{Telling, is_named, tells_recordings, tells_version, told_by, told_from, told_to_front, work_text}
use Rattle.society_book.specs.Sources.{HoldsWorks}
use Rattle.society_closings.specs.Readable.{IsRecordingRow}
use Rattle.society_book.specs.Readable.{IsVersionRow}
use Rattle.society_core.proofs.lemmas.Books.{right_body, some_body, sound_front, sound_order}
use Rattle.society_core.proofs.lemmas.Fronts.{first_holds, second_holds}
use Rattle.society_core.proofs.lemmas.LineNumbers.{in_line_within, is_first, line_rises_to, one_of_either, there_in_line}
use Rattle.society_core.specs.Book.{Book, IsSound, body_at, ends_of, front, is_in_line, is_one_of, line}
use Rattle.society_core.specs.Keys.{ascending, bytes_cmp}
use Rattle.society_rows.specs.Layout as layout
use Rattle.society_rows.specs.Stored.{rows_in}
use Rattle.sqlite_trees.proofs.ListLemmas.{all-append, all-map, all_of}
use Rattle.sqlite_trees.specs.Tree.{Trees}
use Rattle.sqlite_value.specs.Order.{Row}
use Rattle.sqlite_value.specs.declared.value.Value.TheVariants.{Int, Text}
use Rattle.work_ids.proofs.lemmas.Refilled.{work_number_back}
use Rattle.work_ids.specs.Blanks.{fill, without_trailing_blanks}
use Rattle.work_ids.specs.Characters.{is_capital_or_digit, is_printable}
use Rattle.work_ids.specs.Segments.{is_transmission_number}
use Rattle.work_ids.specs.SenderKey.{is_sender_key, sender_key_of}
use Rattle.work_ids.specs.WorkNumber.{work_number_of}
use Rattle.work_ids.specs.declared.fault.IdFault.TheVariants.{Character, Length}
use Rattle.works_core.proofs.lemmas.CleanLemmas.{clean_has_number}
use Rattle.works_core.proofs.lemmas.EndLemmas.{taken}
use Rattle.works_core.specs.Line.{filled_number, judged, judged_by, judged_in}
use Rattle.works_core.specs.Recordings.{isrcs_of}
use Rattle.works_core.specs.Tracks.{number_in}
use Rattle.works_core.specs.Verdicts.{begins_work, concerns, is_accepted, is_registered, ordinal_of, verdict_of, verdicts_from, versions_of, works_in}
use Rattle.works_core.specs.Versions.{Placed, judged_of, placed_at, placed_behind}
use Rattle.works_core.specs.declared.judged.Judged.{Judged}
use Rattle.works_core.specs.declared.judged.Judged.TheVariants.{Clean}
use Rattle.works_core.specs.declared.verdict.Verdict.{Verdict}
use Rattle.works_core.specs.declared.verdict.Verdict.TheVariants.{Accepted, Rejected}

-- ---- how many transactions a transmission has

-- there are no more pieces of a body than bytes
pieces_few : (body : List ℕ) → length (pieces body) ≤ length body
pieces_few [] = omega arith
pieces_few (b ∷ bs) = by_case (eqb b 10) (pieces bs) (pieces_few bs)
  where
    by_first : (ps : List (List ℕ)) → length ps ≤ length bs → length (onto_first b ps) ≤ length (b ∷ bs)
    by_first [] few = omega arith
    by_first (p ∷ ps) few = omega (arith, few)

    by_case : (c : Bool) (ps : List (List ℕ)) → length ps ≤ length bs → length (cond c ((b ∷ []) ∷ ps) (onto_first b ps)) ≤ length (b ∷ bs)
    by_case true ps few = omega (arith, few)
    by_case false ps few = by_first ps few

-- a transaction has a line at least
lines_many : (type : List ℕ) (sequence : ℕ) (xs : List (List (List ℕ))) → AreTransactions type sequence xs → length xs ≤ length (flat_map (λ (x : List (List ℕ)). x) xs)
lines_many type sequence [] are = omega arith
lines_many type sequence ([] ∷ xs) are = absurd are.0
lines_many type sequence ((l ∷ ls) ∷ xs) are =
    let rest = lines_many type (sequence + 1) xs are.1 in
    omega (arith, rest, length-append ls (flat_map (λ (x : List (List ℕ)). x) xs))

group_few : (id n : ℕ) (g : GroupLines) → IsGroup id g → length (group_of n g.opening g.transactions).transactions ≤ length (group_lines g)
group_few id n g is = by_case (is_read (type_of_group g.opening))
  where
    joined : List (List ℕ)
    joined = flat_map (λ (x : List (List ℕ)). x) g.transactions

    many : length g.transactions ≤ length (group_lines g)
    many = omega (arith, lines_many (type_of_group g.opening) 0 g.transactions is.transactions, length-append joined (g.closing ∷ []))

    by_case : (c : Bool) → length (cond c (numbered_transactions (kind_of (type_of_group g.opening)) n g.transactions) []) ≤ length (group_lines g)
    by_case true =
        omega (arith, many, length-map (enumerate_from 0 g.transactions) (λ (p : ℕ × List (List ℕ)). transaction_of (kind_of (type_of_group g.opening)) n p.0 p.1), length-enumerate_from 0 g.transactions)
    by_case false = omega arith

groups_few : (id n : ℕ) (gs : List GroupLines) → AreGroups id gs →
    length (flat_map (λ (g : Group). g.transactions) (map (λ (p : ℕ × GroupLines). group_of p.0 p.1.opening p.1.transactions) (enumerate_from n gs))) ≤ length (flat_map group_lines gs)
groups_few id n [] are = omega arith
groups_few id n (g ∷ gs) are =
    let here = group_few id n g are.0 in
    let rest = groups_few (id + 1) (n + 1) gs are.1 in
    let told = flat_map (λ (g : Group). g.transactions) (map (λ (p : ℕ × GroupLines). group_of p.0 p.1.opening p.1.transactions) (enumerate_from (n + 1) gs)) in
    omega (arith, here, rest, length-append (group_of n g.opening g.transactions).transactions told, length-append (group_lines g) (flat_map group_lines gs))

-- a body without a fault has at most 1,048,576 transactions
transactions_few : (sender body : List ℕ) → file_fault sender body ≡ None → length (transactions_of (transmission_in body)) ≤ 1048576
transactions_few sender body right =
    let is = holds sender body right in
    let shape = is.0.shape in
    let told = ap (λ (t : Transmission). length (transactions_of t)) is.0.told in
    let few = groups_few 1 1 shape.groups is.0.is_file.groups in
    let joined = ap (λ (ls : List (List ℕ)). length ls) is.0.joined in
    let cut = length-map (pieces body) line_of_piece in
    omega (arith, told, few, joined, cut, pieces_few body, is.1.body_fits, length-append (flat_map group_lines shape.groups) (shape.trailer ∷ shape.rest))

none_sent : length (transactions_of (transmission_in [])) ≤ 1048576
unfolding transmission_in
none_sent = omega arith

-- so has any number of a sender
sent_few : (b : Book) (s : List ℕ) (n : ℕ) → IsSound b → length (transactions_of (transmission_in (unwrap_or (body_at b s n) []))) ≤ 1048576
sent_few b s n sound = by_body (body_at b s n) refl
  where
    by_body : (o : Option (List ℕ)) → body_at b s n ≡ o → length (transactions_of (transmission_in (unwrap_or o []))) ≤ 1048576
    by_body None is = none_sent
    by_body (Some body) is = transactions_few s body (right_body b s n body sound is)

-- ---- how many stand before a transaction of a line

-- behind some transactions more there are so many more
behind_many : (past : List Placed) (n p : ℕ) (xs : List Judged) → length (placed_behind past n p xs) ≡ length past + length xs
behind_many past n p [] = omega arith
behind_many past n p (x ∷ xs) = omega (arith, behind_many (placed_at n p x ∷ past) n (p + 1) xs)

module _ (o : Office) (b : Book) (s : List ℕ) (sound : IsSound b) where
  next_few : (before : List ℕ) (n : ℕ) → length (placed_over o b s (before ++ n ∷ [])) ≤ length (placed_over o b s before) + 1048576
  unfolding judged_in
  next_few before n =
      let goes = ap (λ (l : List Placed). length l) (line_goes o b s before n) in
      let many = behind_many (placed_over o b s before) n 0 (judged_in o (sent o b s n)) in
      let mapped = length-map (transactions_of (sent o b s n)) (judged o) in
      omega (arith, goes, many, mapped, sent_few b s n sound)

  over_few : (before more : List ℕ) → length (placed_over o b s (before ++ more)) ≤ length (placed_over o b s before) + length more * 1048576
  over_few before [] = let same = ap (λ (ns : List ℕ). length (placed_over o b s ns)) (append-nil before) in omega (arith, same)
  over_few before (n ∷ more) =
      let same = ap (λ (ns : List ℕ). length (placed_over o b s ns)) (append_assoc before (n ∷ []) more) in
      omega (arith, same, next_few before n, over_few (before ++ n ∷ []) more)

  -- behind some numbers stand so many transactions at most
  placed_few : (ns : List ℕ) → length (placed_over o b s ns) ≤ length ns * 1048576
  placed_few ns = omega (arith, over_few [] ns)

-- numbers that ascend are no more than the last of them
ascends_few : (low high : ℕ) (ns : List ℕ) → Ascends low ns high → low + length ns ≤ high
ascends_few low high [] rise = let last = rise in omega (arith, last)
ascends_few low high (n ∷ ns) rise = let first = rise.0 in omega (arith, first, ascends_few n high ns rise.1)

-- ---- the numbers of a verdict

works_few : (past : List Judged) → works_in past ≤ length past
works_few [] = omega arith
works_few (x ∷ past) = by_case (begins_work past x) (works_few past)
  where
    by_case : (c : Bool) → works_in past ≤ length past → cond c (works_in past + 1) (works_in past) ≤ length (x ∷ past)
    by_case true few = omega (arith, few)
    by_case false few = omega (arith, few)

versions_few : (w : List ℕ) (past : List Judged) → versions_of w past ≤ length past
versions_few w [] = omega arith
versions_few w (x ∷ past) = by_case (is_accepted past x && concerns w x) (versions_few w past)
  where
    by_case : (c : Bool) → versions_of w past ≤ length past → cond c (versions_of w past + 1) (versions_of w past) ≤ length (x ∷ past)
    by_case true few = omega (arith, few)
    by_case false few = omega (arith, few)

ordinal_few : (w : List ℕ) (past : List Judged) → ordinal_of w past ≤ length past
ordinal_few w [] = omega arith
ordinal_few w (x ∷ past) = by_case (is_registered w past) (ordinal_few w past)
  where
    by_case : (c : Bool) → ordinal_of w past ≤ length past → cond c (ordinal_of w past) (works_in (x ∷ past)) ≤ length (x ∷ past)
    by_case true few = omega (arith, few)
    by_case false few = works_few (x ∷ past)

-- a verdict's ordinal and revision are at most so many
abbrev Within : ℕ → Verdict → Type 0
Within most (Rejected fault) = Unit {0}
Within most (Accepted ordinal revision) = (ordinal ≤ most) × (revision ≤ most)

verdict_few : (past : List Judged) (x : Judged) (most : ℕ) → length past + 1 ≤ most → Within most (verdict_of past x)
verdict_few past x most room = by_verdict (verdict_of past x) refl
  where
    by_verdict : (v : Verdict) → verdict_of past x ≡ v → Within most v
    by_verdict (Rejected fault) is = tt
    by_verdict (Accepted ordinal revision) is =
        let its = taken past x ordinal revision is in
        (omega (arith, ordinal_few (number_in x) (x ∷ past), its.ordinal, room), omega (arith, versions_few (number_in x) past, its.revision, room))

-- ---- what the transmissions of a sender tell

-- what an accepted transaction without a fault tells is right, at its place and with its numbers, and a rejected one tells nothing
record TellsRight (tells : Telling) (P : Row → Type 0) (o : Office) (s : List ℕ) (n : ℕ) : Type 0 where
  accepted : (p : ℕ) (x : Transaction) (ordinal revision : ℕ) → p < 1048576 → fault_of o x ≡ None → ordinal ≤ 4000000000000 → revision ≤ 4000000000000 → AllByRecursion P (tells s n p x (Accepted ordinal revision))
  rejected : (p : ℕ) (x : Transaction) (fault : ℕ) → AllByRecursion P (tells s n p x (Rejected fault))

module _ (tells : Telling) (P : Row → Type 0) (o : Office) (s : List ℕ) where
  one_right : (n : ℕ) → TellsRight tells P o s n → (p : ℕ) (x : Transaction) (past : List Judged) → p < 1048576 → length past + 1 ≤ 4000000000000 → AllByRecursion P (tells s n p x (verdict_of past (judged o x)))
  one_right n right p x past low room = by_fault (fault_of o x) refl
    where
      by_verdict : (v : Verdict) → fault_of o x ≡ None → Within 4000000000000 v → AllByRecursion P (tells s n p x v)
      by_verdict (Accepted ordinal revision) none within = right.accepted p x ordinal revision low none within.0 within.1
      by_verdict (Rejected fault) none within = right.rejected p x fault

      by_fault : (f : Option ℕ) → fault_of o x ≡ f → AllByRecursion P (tells s n p x (verdict_of past (judged_by x.kind (filled_number x) f)))
      by_fault (Some fault) is = right.rejected p x fault
      by_fault None is = by_verdict (verdict_of past (Clean x.kind (filled_number x))) is (verdict_few past (Clean x.kind (filled_number x)) 4000000000000 room)

  from_right : (n : ℕ) → TellsRight tells P o s n → (p : ℕ) (xs : List Transaction) (past : List Judged) → p + length xs ≤ 1048576 → length past + length xs ≤ 4000000000000 → AllByRecursion P (told_from tells s n p xs (verdicts_from past (map (judged o) xs)))
  from_right n right p [] past low room = tt
  from_right n right p (x ∷ xs) past low room =
      all-append P (tells s n p x (verdict_of past (judged o x))) (told_from tells s n (p + 1) xs (verdicts_from (judged o x ∷ past) (map (judged o) xs)))
      (one_right n right p x past (omega (arith, low)) (omega (arith, room)))
      (from_right n right (p + 1) xs (judged o x ∷ past) (omega (arith, low)) (omega (arith, room)))

  module _ (b : Book) (sound : IsSound b) (right : (n : ℕ) → is_in_line b s n ≡ true → TellsRight tells P o s n) where
    ordered : AreRight (ends_of b s)
    ordered = (sound_order b sound s).right

    told_right : (before more : List ℕ) (n : ℕ) → line b s ≡ before ++ n ∷ more → AllByRecursion P (told_by tells o b s n)
    unfolding judged_in
    told_right before more n is =
        let past = judged_of (placed_over o b s before) in
        let xs = transactions_of (sent o b s n) in
        let listed = length-append before (n ∷ more) in
        let whole = ap (λ (ns : List ℕ). length ns) is in
        let short = ascends_few 0 (front b s) (line b s) (line_rises_to b s ordered) in
        let front_low = sound_front b s sound in
        let few = placed_few o b s sound before in
        let one : is_one_of (line b s) n ≡ true = ap (λ (ns : List ℕ). is_one_of ns n) is ∙ one_there before more n in
        subst (λ (vs : List Verdict). AllByRecursion P (told_from tells s n 0 xs vs)) (sym (verdicts_go o b s ordered before more n is))
        (from_right n (right n one) 0 xs past (omega (arith, sent_few b s n sound)) (omega (arith, sent_few b s n sound, length-map (placed_over o b s before) (λ (t : Placed). t.judged), few, listed, whole, short, front_low)))
      where
        one_there : (before more : List ℕ) (n : ℕ) → is_one_of (before ++ n ∷ more) n ≡ true
        one_there before more n = one_of_either before (n ∷ more) n ∙ ap (λ (c : Bool). is_one_of before n || c) (is_first n more) ∙ or_right (is_one_of before n) true refl

    on_right : (before more : List ℕ) → line b s ≡ before ++ more → AllByRecursion P (flat_map (told_by tells o b s) more)
    on_right before [] is = tt
    on_right before (n ∷ more) is =
        all-append P (told_by tells o b s n) (flat_map (told_by tells o b s) more) (told_right before more n is)
        (on_right (before ++ n ∷ []) more (is ∙ sym (append_assoc before (n ∷ []) more)))

    -- what the line tells is right
    front_right : AllByRecursion P (told_to_front tells o b s)
    front_right = on_right [] (line b s) refl

-- ---- the rows of versions and of recordings

-- a number of a line is that of a transmission of a sender with a key
pub line_key : (b : Book) (s : List ℕ) (n : ℕ) → IsSound b → is_in_line b s n ≡ true → (is_sender_key s ≡ true) × (is_transmission_number n ≡ true) × (n < 2 ^ 32)
line_key b s n sound in_line =
    let body = some_body (body_at b s n) (there_in_line b s n in_line) in
    let entry = sound.transmissions s n body.0 body.1 in
    let both = first_holds (is_sender_key s && is_transmission_number n) (is_none (file_fault s body.0)) entry in
    let within = in_line_within b s (sound_order b sound s).right n in_line in
    (first_holds (is_sender_key s) (is_transmission_number n) both, second_holds (is_sender_key s) (is_transmission_number n) both, omega (arith, within, sound_front b s sound))

-- a number that is small fits 64 bits
fits : (n : ℕ) → n ≤ 4000000000000 → FitsSigned w64 (pos n)
fits n small = omega (arith, small)

version_right : (o : Office) (s : List ℕ) (n : ℕ) → is_transmission_number n ≡ true → n < 2 ^ 32 → TellsRight tells_version IsVersionRow o s n
version_right o s n number small = record {
  accepted = λ p x ordinal revision low none few_ordinal few_revision. (
    record {
      formed = (refl, ((s, refl), ((work_text x, refl), ((pos revision, refl, fits revision few_revision), ((n, refl, small), ((p, refl, place p low), ((pos ordinal, refl, fits ordinal few_ordinal), tt)))))));
      number = number;
      revision = refl;
      ordinal = refl;
    },
    tt,
  );
  rejected = λ p x fault. tt;
}
  where
    place : (p : ℕ) → p < 1048576 → p < 2 ^ 32
    place p low = omega (arith, low)

-- a sender key is read
key_read : (s : List ℕ) → is_sender_key s ≡ true → IsOk (sender_key_of s)
key_read s is = by_case (length s == 11) (list_all is_capital_or_digit s) is
  where
    by_case : (c d : Bool) → (c && d) ≡ true → IsOk (cond c (cond d (Ok s) (Err Character)) (Err Length))
    by_case true true is = refl
    by_case true false is = absurd (false≢true is)
    by_case false d is = absurd (false≢true is)

-- the work number of a transaction without a fault is read from its text
work_read : (o : Office) (x : Transaction) → fault_of o x ≡ None → IsOk (work_number_of (work_text x))
work_read o x none = by_tests (nat_le 1 (length number) && nat_le (length number) 14) refl (list_all is_printable number) refl (clean_has_number o x none)
  where
    bytes : List ℕ
    bytes = submitter_number (first_work x.records)

    number : List ℕ
    number = without_trailing_blanks bytes

    by_tests : (a : Bool) → (nat_le 1 (length number) && nat_le (length number) 14) ≡ a → (c : Bool) → list_all is_printable number ≡ c →
        not (is_ok (cond a (cond c (Ok (fill 14 number)) (Err Character)) (Err Length))) ≡ false → IsOk (work_number_of (work_text x))
    by_tests true sized true printable there =
        let low = leb-true 1 (length number) (first_holds (nat_le 1 (length number)) (nat_le (length number) 14) sized) in
        let high = leb-true (length number) 14 (second_holds (nat_le 1 (length number)) (nat_le (length number) 14) sized) in
        subst IsOk (sym (work_number_back bytes number refl low high printable)) refl
    by_tests true sized false printable there = absurd (false≢true (sym there))
    by_tests false sized c printable there = absurd (false≢true (sym there))

recording_right : (o : Office) (s : List ℕ) (n : ℕ) → is_sender_key s ≡ true → TellsRight tells_recordings IsRecordingRow o s n
recording_right o s n key = record {
  accepted = λ p x ordinal revision low none few_ordinal few_revision.
      all-map IsRecordingRow (λ (isrc : List ℕ). Text s ∷ Text (work_text x) ∷ Int (pos revision) ∷ Text isrc ∷ []) (ascending bytes_cmp (isrcs_of x))
      (all_of (λ (isrc : List ℕ). IsRecordingRow (Text s ∷ Text (work_text x) ∷ Int (pos revision) ∷ Text isrc ∷ []))
      (λ isrc. record {
        formed = (refl, ((s, refl), ((work_text x, refl), ((pos revision, refl, fits revision few_revision), ((isrc, refl), tt)))));
        named = record { sender = key_read s key; work = work_read o x none };
      })
      (ascending bytes_cmp (isrcs_of x)));
  rejected = λ p x fault. tt;
}

module _ (o : Office) (b : Book) (db : Trees) (holds : HoldsWorks o b db) where
  -- each row of the table of versions can be read
  pub versions_readable : AllByRecursion IsVersionRow (rows_in layout.versions db)
  versions_readable = all_rows is_named (text_at 0) (λ r. (bytes_eq-Decides (text_at 0 r) (text_at 0 r)).1 refl) IsVersionRow (told_to_front tells_version o b) (rows_in layout.versions db) holds.derived.versions
      (λ s. front_right tells_version IsVersionRow o s b holds.sound (λ n in_line. let its = line_key b s n holds.sound in_line in version_right o s n its.1 its.2))

  -- so can each row of the table of recordings
  pub recordings_readable : AllByRecursion IsRecordingRow (rows_in layout.recordings db)
  recordings_readable = all_rows is_named (text_at 0) (λ r. (bytes_eq-Decides (text_at 0 r) (text_at 0 r)).1 refl) IsRecordingRow (told_to_front tells_recordings o b) (rows_in layout.recordings db) holds.derived.recordings
      (λ s. front_right tells_recordings IsRecordingRow o s b holds.sound (λ n in_line. let its = line_key b s n holds.sound in_line in recording_right o s n its.0))
