-- What a reading of old frames has found, and pages of the file.
use Rattle.std.proofs.Common.{◌≡◌, ◌≢◌, ◌⊎◌, ◌↔◌, ℕ, ◌+◌, ◌-◌, ◌*◌, ◌<◌, ◌≤◌, Bool, false, IsTrue, List, length, drop, slice_index, sym, ◌∙◌, ap, inl, inr, arith, below_more, length-drop}
use Rattle.std.proofs.lemmas.Bool.{cases_order, cases_lt, cases_eq}
use Rattle.std.proofs.lemmas.Slice.Eq.{bytes_eq-Decides}
use Rattle.std.specs.Str.{bytes_eq}
use Rattle.sqlite_disk.specs.Disk.{Holds}
use Rattle.sqlite_wal.specs.Format.{part, be32, stored_sum, commit_size, page_number, content}
use Rattle.sqlite_wal.specs.Recovery.{frame, frame_at, sum_before, file_page}
use Rattle.sqlite_wal.proofs.PartLemmas.{slice_index-part, length-part, held_is_part, part_within, part_whole, same_be32, frames_len-le}
use Rattle.sqlite_wal.proofs.FormatLemmas.{be32-part}
use Rattle.log_reading.specs.Frames.{SumsFrom, HasFrame, Joins, salts}
use Rattle.log_reading.specs.OldFrames.{CountsAlone, HasJoined}
use Rattle.log_reading.specs.Stands.{IsOldEnd}
use Rattle.log_reading.proofs.Lemmas.{next_sums}

-- a page behind the end of a file is no content
pub page_beyond : (db content : List ℕ) (page : ℕ) → 0 < length content → length db < (page - 1) * length content + length content → file_page (length content) db page ≡ content → ⊥
page_beyond db content page some short same = absurd (omega (arith, part_within db ((page - 1) * length content) (length content) some (ap length same)))

-- what `==` says of a page that was read
pub page_decides : (r : Bool) (db content buffer : List ℕ) (page : ℕ) → r ≡ bytes_eq buffer content → Holds db ((page - 1) * length content) buffer → length buffer ≡ length content
    → IsTrue r ↔ (file_page (length content) db page ≡ content)
page_decides r db content buffer page is held len =
    let there : file_page (length content) db page ≡ buffer = held_is_part db buffer _ _ held len in (
      λ yes'. there ∙ (bytes_eq-Decides _ _).0 (sym is ∙ yes'),
      λ same. is ∙ (bytes_eq-Decides _ _).1 (sym there ∙ same),
    )

-- a page of the file is the content of a frame where it is that of a buffer that holds the frame
pub there_from : (size i page : ℕ) (log db buffer rest : List ℕ) → buffer ≡ frame size log i → length buffer ≡ 24 + size → page ≡ be32 buffer 0 → rest ≡ drop 24 buffer
    → file_page (length rest) db page ≡ rest → file_page size db (page_number (frame size log i)) ≡ content (frame size log i)
there_from size i page log db buffer rest b len is r same =
    let whole : length rest ≡ size = omega (arith, ap length r, length-drop 24 buffer) in
    let number : page ≡ page_number (frame size log i) = is ∙ ap (λ (it : List ℕ). be32 it 0) b in
    let here = rw whole at same in
    ap (file_page size db) (sym number) ∙ here ∙ r ∙ ap (λ (it : List ℕ). drop 24 it) b

pub there_to : (size i page : ℕ) (log db buffer rest : List ℕ) → buffer ≡ frame size log i → length buffer ≡ 24 + size → page ≡ be32 buffer 0 → rest ≡ drop 24 buffer
    → file_page size db (page_number (frame size log i)) ≡ content (frame size log i) → file_page (length rest) db page ≡ rest
there_to size i page log db buffer rest b len is r same =
    let whole : length rest ≡ size = omega (arith, ap length r, length-drop 24 buffer) in
    let number : page ≡ page_number (frame size log i) = is ∙ ap (λ (it : List ℕ). be32 it 0) b in
    rw whole (ap (file_page size db) number ∙ same ∙ sym (ap (λ (it : List ℕ). drop 24 it) b) ∙ sym r)

-- two salts are eight bytes
pub salts_len : (size : ℕ) (log : List ℕ) → HasFrame size log 1 → length (salts size log 1) ≡ 8
salts_len size log within =
    let whole = length-part log (frame_at size 1) (24 + size) within in
    length-part (frame size log 1) 8 8 (omega arith)

-- the first four bytes of a frame are its page
pub page_read : (log number : List ℕ) (size j at : ℕ) → Holds log at number → length number ≡ 4 → at ≡ frame_at size j → be32 number 0 ≡ page_number (frame size log j)
page_read log number size j at held len is =
    let same : be32 number 0 ≡ be32 log (frame_at size j + 0) = same_be32 number log 0 (frame_at size j + 0) λ i h.
    let here : 0 + i ≡ i = omega arith in
    let there : at + i ≡ frame_at size j + 0 + i = omega arith in
    ap (slice_index number) here ∙ sym (held.each i (omega arith)) ∙ ap (slice_index log) there in
    same ∙ sym (be32-part log (frame_at size j) (24 + size) 0 (omega arith))

-- frame 1 counts by itself where a buffer that holds it says so
pub alone_from : (size : ℕ) (log first buffer : List ℕ) (before : ℕ × ℕ) → first ≡ frame size log 0 → before ≡ stored_sum first 16 → buffer ≡ frame size log 1 → HasFrame size log 1
    → SumsFrom false before buffer × (slice_index buffer 8 ≢ 0) → CountsAlone size log
alone_from size log first buffer before f s b within counts =
    let sums : before ≡ sum_before size log 1 = s ∙ ap (λ (it : List ℕ). stored_sum it 16) f ∙ sym (next_sums size log 0) in
    let there = rw (sums, b) at counts in
    (record { within = within; sums = there.0 }, λ none. there.1 (sym (slice_index-part (frame size log 1) 8 8 0 (omega arith)) ∙ none))

pub alone_to : (size : ℕ) (log first buffer : List ℕ) (before : ℕ × ℕ) → first ≡ frame size log 0 → before ≡ stored_sum first 16 → buffer ≡ frame size log 1
    → CountsAlone size log → SumsFrom false before buffer × (slice_index buffer 8 ≢ 0)
alone_to size log first buffer before f s b alone =
    let sums : before ≡ sum_before size log 1 = s ∙ ap (λ (it : List ℕ). stored_sum it 16) f ∙ sym (next_sums size log 0) in
    rw (sums, b) (alone.0.sums, λ none. alone.1 (slice_index-part (frame size log 1) 8 8 0 (omega arith) ∙ none))

-- what frame 1 says by itself
pub first_joined : (size : ℕ) (log buffer : List ℕ) (p last pages : ℕ) (sums : ℕ × ℕ) → buffer ≡ frame size log 1 → sums ≡ stored_sum buffer 16
    → (p ≡ 0 → (last ≡ 0) × (pages ≡ 0)) → (p ≢ 0 → (last ≡ 1) × (pages ≡ p))
    → (CountsAlone size log × (p ≡ be32 buffer 4)) ⊎ ((¬ CountsAlone size log) × (p ≡ 0)) → HasJoined size log 2 last pages sums
first_joined size log buffer p last pages sums b s none some counts =
    let summed : sums ≡ sum_before size log 2 = s ∙ ap (λ (it : List ℕ). stored_sum it 16) b ∙ sym (next_sums size log 1) in
    let size_there : p ≡ be32 buffer 4 → p ≡ commit_size (frame size log 1) = λ is. is ∙ ap (λ (it : List ℕ). be32 it 4) b in
    elim (cases_eq p 0) [
      | inl nought ↦ record {
        summed = summed;
        joined = λ m from to. absurd (omega arith);
        earlier = omega (arith, (none nought).0);
        alone = λ one. absurd (omega (arith, (none nought).0));
        commits = λ it. absurd (it (none nought).0);
        pages_there = λ it. absurd (it (none nought).0);
        later = λ j from after to alone. elim counts [
          | inl it ↦ let one : j ≡ 1 = omega arith in rw one (sym (size_there it.1) ∙ nought)
          | inr it ↦ absurd (it.0 (alone (omega arith)))
        ];
      }
      | inr not_nought ↦ elim counts [
        | inl it ↦
            let here : last ≡ 1 = (some not_nought).0 in
            record {
              summed = summed;
              joined = λ m from to. absurd (omega arith);
              earlier = omega arith;
              alone = λ one. it.0;
              commits = λ _. rw here (λ no'. not_nought (size_there it.1 ∙ no'));
              pages_there = λ _. rw here ((some not_nought).1 ∙ size_there it.1);
              later = λ j from after to alone. absurd (omega arith);
            }
        | inr it ↦ absurd (not_nought it.1)
      ]
    ]

-- frame i goes on from the old frames where a buffer that holds it does
pub joins_from : (size : ℕ) (log buffer own : List ℕ) (i : ℕ) (sums : ℕ × ℕ) → buffer ≡ frame size log i → sums ≡ sum_before size log i → own ≡ salts size log 1 → length own ≡ 8 → HasFrame size log i
    → SumsFrom false sums buffer × (part buffer 8 8 ≡ part own 0 8) → Joins size log i
joins_from size log buffer own i sums b s o len within on =
    let there = rw (b, s) at on in
    (record { within = within; sums = there.0 }, there.1 ∙ part_whole own 8 len ∙ o)

pub joins_to : (size : ℕ) (log buffer own : List ℕ) (i : ℕ) (sums : ℕ × ℕ) → buffer ≡ frame size log i → sums ≡ sum_before size log i → own ≡ salts size log 1 → length own ≡ 8
    → Joins size log i → SumsFrom false sums buffer × (part buffer 8 8 ≡ part own 0 8)
joins_to size log buffer own i sums b s o len on = rw (b, s) (on.0.sums, on.1 ∙ sym (part_whole own 8 len ∙ o))

-- one more of the old frames
pub joined_more : (size : ℕ) (log buffer : List ℕ) (i p last pages last' pages' : ℕ) (sums sums' : ℕ × ℕ) → HasJoined size log i last pages sums → 2 ≤ i → Joins size log i
    → buffer ≡ frame size log i → p ≡ be32 buffer 4 → sums' ≡ stored_sum buffer 16
    → (p ≡ 0 → (last' ≡ last) × (pages' ≡ pages)) → (p ≢ 0 → (last' ≡ i) × (pages' ≡ p)) → HasJoined size log (i + 1) last' pages' sums'
joined_more size log buffer i p last pages last' pages' sums sums' old from joins b is s none some =
    let summed : sums' ≡ sum_before size log (i + 1) = s ∙ ap (λ (it : List ℕ). stored_sum it 16) b ∙ sym (next_sums size log i) in
    let there : p ≡ commit_size (frame size log i) = is ∙ ap (λ (it : List ℕ). be32 it 4) b in
    let joined : (m : ℕ) → 2 ≤ m → m < i + 1 → Joins size log m = λ m low high. below_more (λ (it : ℕ). 2 ≤ it → Joins size log it) i (λ it under two. old.joined it two under) (λ two. joins) m high low in
    elim (cases_eq p 0) [
      | inl nought ↦
          let here : last' ≡ last = (none nought).0 in
          record {
            summed = summed;
            joined = joined;
            earlier = omega (arith, old.earlier);
            alone = λ one. old.alone (sym here ∙ one);
            commits = λ it. rw here (old.commits (λ no'. it (here ∙ no')));
            pages_there = λ it. rw here ((none nought).1 ∙ old.pages_there (λ no'. it (here ∙ no')));
            later = λ j low after to alone. elim (cases_order j i) [
              | inl same ↦ rw same (sym there ∙ nought)
              | inr (inl under) ↦ old.later j low (omega arith) under alone
              | inr (inr over) ↦ absurd (omega arith)
            ];
          }
      | inr not_nought ↦
          let here : last' ≡ i = (some not_nought).0 in
          record {
            summed = summed;
            joined = joined;
            earlier = omega arith;
            alone = λ one. absurd (omega arith);
            commits = λ _. rw here (λ no'. not_nought (there ∙ no'));
            pages_there = λ _. rw here ((some not_nought).1 ∙ there);
            later = λ j low after to alone. absurd (omega arith);
          }
    ]

-- the last of the old frames, where the next does not go on from them
pub old_end_some : (size : ℕ) (log : List ℕ) (i last pages : ℕ) (sums : ℕ × ℕ) → HasJoined size log i last pages sums → 2 ≤ i → ¬ Joins size log i → last ≢ 0 → IsOldEnd size log last
old_end_some size log i last pages sums old from ends some = record {
  some = omega arith;
  join = λ m low high. old.joined m low (omega (arith, old.earlier));
  alone = old.alone;
  commits = old.commits some;
  last = λ j after all. elim (cases_lt j i) [
    | inl under ↦ old.later j (omega arith) after under (λ one. absurd (omega arith))
    | inr over ↦ absurd (ends (all i from over))
  ];
}

pub old_end_none : (size : ℕ) (log : List ℕ) (i last pages : ℕ) (sums : ℕ × ℕ) → HasJoined size log i last pages sums → 2 ≤ i → ¬ Joins size log i → last ≡ 0 → (c : ℕ) → IsOldEnd size log c → ⊥
old_end_none size log i last pages sums old from ends none c e = elim (cases_lt c i) [
  | inl under ↦ e.commits (old.later c e.some (omega (arith, e.some)) under e.alone)
  | inr over ↦ ends (e.join i from over)
]

-- the last of the old frames is there
pub last_within : (size len last count : ℕ) → frame_at size 1 + (24 + size) ≤ len → ((i : ℕ) → i < count → frame_at size i + (24 + size) ≤ len) → (last ≤ 1) ⊎ (last < count) → frame_at size last + (24 + size) ≤ len
last_within size len last count first each (inl low) = omega (arith, frames_len-le size last 1 low)
last_within size len last count first each (inr low) = each last low
