-- What one line does to the running counts, and when it has no fault.
use Rattle.std.proofs.Common.{◌≡◌, ℕ, ◌+◌, Bool, true, false, cond, eqb, List, refl, ap}
use Rattle.std.specs.Prelude.{not, ◌&&◌, ◌||◌, bytes_eq, None, Some, Option}
use Rattle.std.proofs.lemmas.Bool.{and_parts, and_from}
use Rattle.cwr_records.specs.Lines.{is_blank}
use Rattle.cwr_records.specs.Places.{record_type_in}
use Rattle.cwr_records.specs.Records.{group_header_of}
use Rattle.cwr_files.specs.declared.counts.Counts.{Counts}
use Rattle.cwr_files.specs.declared.counts.Stage.TheVariants.{Header, Between, Within, Ended}
use Rattle.cwr_files.specs.RecordTypes.{hdr, grh, grt, trl, has_type, is_frame, is_read, is_code, type_of_group}
use Rattle.cwr_files.specs.RightLines.{is_numbered, is_dated, bears, has_group_counts, has_file_counts, is_header, is_opening, is_closing, is_trailer, is_record, sender_of_header}
use Rattle.cwr_files.specs.Chain.{header_fault, opening_fault, trailer_fault, between_fault, closing_fault, record_fault, group_fault, ended_fault}
use Rattle.cwr_files.specs.LineFaults.{sequence_at, record_sequence_at, no_header, other_sender, wrong_date, outside_groups, wrong_group_id, misplaced_in_group, wrong_sequence, wrong_group_counts, wrong_file_counts, behind_trailer, wrong_type}
use Rattle.cwr_files.specs.Counts.{group_after, group_begun_by, counts_after}
use Rattle.cwr_files.proofs.lemmas.LineFacts.{other_type, NoFrame, no_frame}

-- counts, by where they stand
abbrev pub at_header : Counts
at_header = record { lines = 0; groups = 0; transactions = 0; stage = Header }

abbrev pub at_between : ℕ → ℕ → ℕ → Counts
at_between n m t = record { lines = n; groups = m; transactions = t; stage = Between }

abbrev pub at_end : ℕ → ℕ → ℕ → Counts
at_end n m t = record { lines = n; groups = m; transactions = t; stage = Ended }

-- within a group of a type: so many of its transactions have begun, so many of its lines stand before, and the next has this record sequence
abbrev pub at_within : List ℕ → ℕ → ℕ → ℕ → ℕ → ℕ → ℕ → Counts
at_within kind r q k n m t = record { lines = n; groups = m; transactions = t; stage = Within (record { kind = kind; transactions = r; lines = q; further = k }) }

-- tests

guard : (b : Bool) (n : ℕ) (x : Option ℕ) → cond b (Some n) x ≡ None → (b ≡ false) × (x ≡ None)
guard true n x e = absurd cc
guard false n x e = (refl, e)

guard-not : (b : Bool) (n : ℕ) (x : Option ℕ) → cond (not b) (Some n) x ≡ None → (b ≡ true) × (x ≡ None)
guard-not true n x e = (refl, e)
guard-not false n x e = absurd cc

kept : (b : Bool) (n : ℕ) → cond b None (Some n) ≡ None → b ≡ true
kept true n e = refl
kept false n e = absurd cc

keeps : (b : Bool) (n : ℕ) → b ≡ true → cond b None (Some n) ≡ None
keeps b n e = ap (λ x. cond x None (Some n)) e

either-way : (a b : Bool) → (a && not b) ≡ false → (not a || b) ≡ true
either-way true true e = refl
either-way true false e = absurd cc
either-way false true e = refl
either-way false false e = refl

back-way : (a b : Bool) → (not a || b) ≡ true → (a && not b) ≡ false
back-way true true e = refl
back-way true false e = absurd cc
back-way false true e = refl
back-way false false e = refl

or-parts : (a b : Bool) → (a || b) ≡ false → (a ≡ false) × (b ≡ false)
or-parts true b e = absurd cc
or-parts false b e = (refl, e)

not-is : (b : Bool) → not b ≡ true → b ≡ false
not-is true e = absurd cc
not-is false e = refl

-- the first line

pub header-good : (sender line : List ℕ) → header_fault sender line ≡ None → is_header sender line ≡ true
unfolding header_fault is_header
header-good sender line e =
    let a = guard-not (has_type hdr line) no_header _ e in
    let b = guard-not (bytes_eq (sender_of_header line) sender) other_sender _ a.1 in
    let c = guard-not (is_dated line) wrong_date _ b.1 in
    and_from _ _ (and_from _ _ a.0 b.0) c.0

pub header-faultless : (sender line : List ℕ) → is_header sender line ≡ true → header_fault sender line ≡ None
unfolding header_fault is_header
header-faultless sender line e =
    let a = and_parts (has_type hdr line && bytes_eq (sender_of_header line) sender) (is_dated line) e in
    let b = and_parts (has_type hdr line) (bytes_eq (sender_of_header line) sender) a.0 in
    rw (b.0, b.1, a.1) refl

pub after-header : (line : List ℕ) → counts_after at_header line ≡ at_between 1 0 0
unfolding counts_after
after-header line = refl

-- group headers

pub opening-good : (m t n : ℕ) (line : List ℕ) → between_fault m t n line ≡ None → has_type grh line ≡ true → is_opening (m + 1) line ≡ true
unfolding between_fault opening_fault is_opening
opening-good m t n line e h =
    let o : cond true (opening_fault m line) (cond (has_type trl line) (trailer_fault m t n line) (Some outside_groups)) ≡ None = rw h at e in
    let a = guard-not (bears (group_header_of line).group_id (m + 1)) wrong_group_id _ o in
    let b = guard-not (is_code (type_of_group line)) wrong_type _ a.1 in
    and_from _ _ (and_from _ _ h a.0) b.0

pub opening-type : (m : ℕ) (line : List ℕ) → is_opening m line ≡ true → has_type grh line ≡ true
unfolding is_opening
opening-type m line e =
    (and_parts (has_type grh line) _ (and_parts (has_type grh line && bears (group_header_of line).group_id m) (is_code (type_of_group line)) e).0).0

pub opening-faultless : (m t n : ℕ) (line : List ℕ) → is_opening (m + 1) line ≡ true → between_fault m t n line ≡ None
unfolding between_fault opening_fault is_opening
opening-faultless m t n line e =
    let a = and_parts (has_type grh line && bears (group_header_of line).group_id (m + 1)) (is_code (type_of_group line)) e in
    let b = and_parts (has_type grh line) (bears (group_header_of line).group_id (m + 1)) a.0 in
    rw (b.0, b.1, a.1) refl

pub after-opening : (n m t : ℕ) (line : List ℕ) → has_type grh line ≡ true → counts_after (at_between n m t) line ≡ at_within (type_of_group line) 0 1 1 (n + 1) (m + 1) t
unfolding counts_after group_begun_by
after-opening n m t line h = rw h refl

-- transmission trailers

pub trailer-good : (m t n : ℕ) (line : List ℕ) → between_fault m t n line ≡ None → has_type grh line ≡ false → is_trailer m t (n + 1) line ≡ true
unfolding between_fault trailer_fault is_trailer
trailer-good m t n line e h =
    let o : cond false (opening_fault m line) (cond (has_type trl line) (trailer_fault m t n line) (Some outside_groups)) ≡ None = rw h at e in
    let a = trailer-parts (has_type trl line) (has_file_counts m t (n + 1) line) o in
    and_from _ _ a.0 a.1 where
      trailer-parts : (a b : Bool) → cond {A = Option ℕ} a (cond b None (Some wrong_file_counts)) (Some outside_groups) ≡ None → (a ≡ true) × (b ≡ true)
      trailer-parts true true f = (refl, refl)
      trailer-parts true false f = absurd cc
      trailer-parts false b f = absurd cc

pub trailer-type : (m t n : ℕ) (line : List ℕ) → is_trailer m t n line ≡ true → has_type trl line ≡ true
unfolding is_trailer
trailer-type m t n line e = (and_parts (has_type trl line) _ e).0

pub trailer-faultless : (m t n : ℕ) (line : List ℕ) → is_trailer m t (n + 1) line ≡ true → between_fault m t n line ≡ None
unfolding between_fault trailer_fault is_trailer
trailer-faultless m t n line e =
    let a = and_parts (has_type trl line) (has_file_counts m t (n + 1) line) e in
    let no = other_type trl grh line refl a.0 in
    rw (no, a.0, a.1) refl

pub after-trailer : (n m t : ℕ) (line : List ℕ) → has_type grh line ≡ false → counts_after (at_between n m t) line ≡ at_end (n + 1) m t
unfolding counts_after
after-trailer n m t line h = rw h refl

-- group trailers

pub closing-good : (m r q k : ℕ) (kind line : List ℕ) → group_fault m kind r q k line ≡ None → has_type grt line ≡ true → is_closing m r (q + 1) line ≡ true
unfolding group_fault closing_fault is_closing
closing-good m r q k kind line e h =
    let o : cond true (closing_fault m r q line) (record_fault kind r k line) ≡ None = rw h at e in
    and_from _ _ h (kept (has_group_counts m r (q + 1) line) wrong_group_counts o)

pub closing-type : (m r q : ℕ) (line : List ℕ) → is_closing m r q line ≡ true → has_type grt line ≡ true
unfolding is_closing
closing-type m r q line e = (and_parts (has_type grt line) _ e).0

pub closing-faultless : (m r q k : ℕ) (kind line : List ℕ) → is_closing m r (q + 1) line ≡ true → group_fault m kind r q k line ≡ None
unfolding group_fault closing_fault is_closing
closing-faultless m r q k kind line e =
    let a = and_parts (has_type grt line) (has_group_counts m r (q + 1) line) e in
    rw (a.0, a.1) refl

pub after-closing : (kind : List ℕ) (r q k n m t : ℕ) (line : List ℕ) → has_type grt line ≡ true → counts_after (at_within kind r q k n m t) line ≡ at_between (n + 1) m t
unfolding counts_after
after-closing kind r q k n m t line h = rw h refl

-- records

-- what a record without a fault is
pub record IsGood (kind : List ℕ) (r k : ℕ) (line : List ℕ) : Type 0 where
  pub begun : (not (has_type kind line) && eqb r 0) ≡ false
  pub is_record' : is_record kind (sequence_at kind r line) (record_sequence_at kind k line) line ≡ true

pub record-free : (kind : List ℕ) (j k : ℕ) (line : List ℕ) → is_record kind j k line ≡ true → NoFrame line
unfolding is_record
record-free kind j k line e =
    let a = and_parts (not (is_frame line) && (not (is_read kind) || is_numbered j k line)) (is_code (record_type_in line)) e in
    let b = and_parts (not (is_frame line)) (not (is_read kind) || is_numbered j k line) a.0 in
    no_frame line (not-is (is_frame line) b.0)

pub record-good : (m r q k : ℕ) (kind line : List ℕ) → group_fault m kind r q k line ≡ None → has_type grt line ≡ false → IsGood kind r k line
unfolding group_fault record_fault is_record
record-good m r q k kind line e h =
    let o : cond false (closing_fault m r q line) (record_fault kind r k line) ≡ None = rw h at e in
    let a = guard (is_frame line || (not (has_type kind line) && eqb r 0)) misplaced_in_group _ o in
    let b = guard (is_read kind && not (is_numbered (sequence_at kind r line) (record_sequence_at kind k line) line)) wrong_sequence _ a.1 in
    let c = guard-not (is_code (record_type_in line)) wrong_type _ b.1 in
    let d = or-parts (is_frame line) (not (has_type kind line) && eqb r 0) a.0 in
    record {
      begun = d.1;
      is_record' = and_from _ _ (and_from _ _ (ap not d.0) (either-way (is_read kind) _ b.0)) c.0;
    }

pub record-faultless : (m r q k : ℕ) (kind line : List ℕ) → IsGood kind r k line → group_fault m kind r q k line ≡ None
unfolding group_fault record_fault is_record
record-faultless m r q k kind line g =
    let numbered = is_numbered (sequence_at kind r line) (record_sequence_at kind k line) line in
    let a = and_parts (not (is_frame line) && (not (is_read kind) || is_numbered (sequence_at kind r line) (record_sequence_at kind k line) line)) (is_code (record_type_in line)) g.is_record' in
    let b = and_parts (not (is_frame line)) (not (is_read kind) || is_numbered (sequence_at kind r line) (record_sequence_at kind k line) line) a.0 in
    let free = no_frame line (not-is (is_frame line) b.0) in
    rw (free.no_grt, not-is (is_frame line) b.0, g.begun, back-way (is_read kind) (is_numbered (sequence_at kind r line) (record_sequence_at kind k line) line) b.1, a.1) refl

pub after-record : (kind : List ℕ) (r q k n m t : ℕ) (line : List ℕ) (b : Bool) → has_type grt line ≡ false → has_type kind line ≡ b → counts_after (at_within kind r q k n m t) line ≡ at_within kind (cond b (r + 1) r) (q + 1) (cond b 0 k + 1) (n + 1) m (cond b (t + 1) t)
unfolding counts_after group_after
after-record kind r q k n m t line b h e = rw (h, e) refl

-- blank lines

pub blank-good : (line : List ℕ) → ended_fault line ≡ None → is_blank line ≡ true
unfolding ended_fault
blank-good line e = kept (is_blank line) behind_trailer e

pub blank-faultless : (line : List ℕ) → is_blank line ≡ true → ended_fault line ≡ None
unfolding ended_fault
blank-faultless line e = keeps (is_blank line) behind_trailer e

pub after-blank : (n m t : ℕ) (line : List ℕ) → counts_after (at_end n m t) line ≡ at_end (n + 1) m t
unfolding counts_after
after-blank n m t line = refl
