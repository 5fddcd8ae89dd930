-- Lemmas on bodies that are fed while they come.
use Rattle.std.proofs.Common.{◌≡◌, ℕ, ◌+◌, ◌<◌, ◌≤◌, List, [], ◌++◌, length, take, drop, Option, sym, ◌∙◌, ap, subst, arith, append_assoc, length-append, length-take}
use Rattle.std.specs.Prelude.{min, ◌^◌}
use Rattle.std.specs.Io.KnownBytes.{IsAtEnd}
use Rattle.std.proofs.lemmas.List.{append-nil, take-append-drop, take_at}
use Rattle.cwr_files.specs.Fed.{Fed, WasFed}
use Rattle.httparse.specs.Grammar.{print_request}
use Rattle.http_desk.specs.Feeding.{HasFed, pending}
use Rattle.http_desk.specs.Head.{HasHead}
use Rattle.http_desk.specs.Input.{ReadsOn}
use Rattle.http_text.specs.Part.{IsPart}
use Rattle.http_text.specs.Path.{PutsTransmission}
use Rattle.http_text.specs.Reads.{Awaits}
use Rattle.http_desk.specs.Upcoming.{EndsSo}
use Rattle.http_text.specs.declared.body_length.BodyLength.TheVariants.{Sized}
use Rattle.http_text.specs.declared.connection_end.End.TheVariants.{Bad, Busy}
use Rattle.http_desk.specs.declared.head.Head.{Head}
use Rattle.http_desk.proofs.lemmas.UpcomingLemmas.{ReadsOn-behind, ReadsOn-is, ReadsOn-join, ReadsOn-same, awaits_body, ended_refused, ended_short}

-- ---- what is pending

head_text : (before : List ℕ) (kept : Head) (h : HasHead before kept) → take kept.length before ≡ print_request h.0
head_text before kept h =
    ap (λ (v : List ℕ). take kept.length v) h.2.reads.1 ∙ take_at (print_request h.0) h.1 kept.length (sym h.3.size)

-- the head stays, whatever follows
pub pending_head : (before fed rest : List ℕ) (kept : Head) → HasHead before kept → HasHead (pending before kept fed rest) kept
pending_head before fed rest kept h = (
  h.0,
  fed ++ rest,
  record {
    reads = (
      h.2.reads.0,
      append_assoc (take kept.length before) fed rest ∙ ap (λ (v : List ℕ). v ++ (fed ++ rest)) (head_text before kept h),
    );
    short = h.2.short;
    few = h.2.few;
  },
  h.3,
)

module _ (before : List ℕ) (turns : ℕ) (known : Option (List ℕ)) (reads : ℕ) (kept : Head) where
  -- nothing was fed yet
  pub fed_none : (spare : ℕ) (sink : Fed) (rest : List ℕ) → WasFed sink [] → rest ≡ drop kept.length before → spare ≡ turns → reads < 2 ^ 64
      → HasFed before rest turns spare known known reads reads kept sink kept.body
  fed_none spare sink rest empty e same small = record {
    fed = [];
    was_fed = empty;
    size = omega arith;
    read_on =
        ReadsOn-same Awaits before _ turns spare known reads
        (ap (λ (v : List ℕ). v ++ rest) (append-nil (take kept.length before))
        ∙ ap (λ (v : List ℕ). take kept.length before ++ v) e
        ∙ take-append-drop kept.length before) same small;
  }

  -- bytes were read
  pub fed_read : (rest next : List ℕ) (spare later_spare : ℕ) (now later : Option (List ℕ)) (now_reads later_reads : ℕ) (sink : Fed) (left : ℕ)
      → HasHead before kept → 1 ≤ left
      → HasFed before rest turns spare known now reads now_reads kept sink left → ReadsOn (λ bytes. bytes ≡ []) rest next spare later_spare now later now_reads later_reads
      → HasFed before next turns later_spare known later reads later_reads kept sink left
  fed_read rest next spare later_spare now later now_reads later_reads sink left h some so more = record {
    fed = so.fed;
    was_fed = so.was_fed;
    size = so.size;
    read_on =
        ReadsOn-join Awaits before _ _ turns spare later_spare known now later reads now_reads later_reads so.read_on
        (ReadsOn-behind (λ bytes. bytes ≡ []) Awaits (take kept.length before ++ so.fed) rest next spare later_spare now later now_reads later_reads awaited more);
  }
    where
      awaited : (v : List ℕ) → v ≡ [] → Awaits ((take kept.length before ++ so.fed) ++ v)
      awaited v nil =
          awaits_body _ kept (pending_head before so.fed v kept h)
          (omega (arith, so.size, some, ap length nil, length-append (take kept.length before ++ so.fed) v, length-append (take kept.length before) so.fed, length-take kept.length before))

  -- bytes that were read were fed
  pub fed_on : (rest next : List ℕ) (spare new_spare : ℕ) (now : Option (List ℕ)) (now_reads : ℕ) (sink new_sink : Fed) (left new_left count : ℕ)
      → HasFed before rest turns spare known now reads now_reads kept sink left
      → ((fed : List ℕ) → WasFed sink fed → WasFed new_sink (fed ++ take count rest)) → next ≡ drop count rest
      → count ≡ min (length rest) left → new_left + count ≡ left → new_spare ≡ spare
      → HasFed before next turns new_spare known now reads now_reads kept new_sink new_left
  fed_on rest next spare new_spare now now_reads sink new_sink left new_left count so feeds e is less same = record {
    fed = so.fed ++ take count rest;
    was_fed = feeds so.fed so.was_fed;
    size = omega (arith, so.size, is, less, length-append so.fed (take count rest), length-take count rest);
    read_on =
        let P : ℕ → Type 0 = λ n. ReadsOn Awaits before (pending before kept (so.fed ++ take count rest) next) turns n known now reads now_reads in
        subst P (sym same) (ReadsOn-is Awaits before _ _ turns spare known now reads now_reads so.read_on regrouped);
  }
    where
      regrouped : pending before kept (so.fed ++ take count rest) next ≡ pending before kept so.fed rest
      regrouped =
          ap (λ (v : List ℕ). v ++ next) (sym (append_assoc (take kept.length before) so.fed (take count rest)))
          ∙ append_assoc (take kept.length before ++ so.fed) (take count rest) next
          ∙ ap (λ (v : List ℕ). (take kept.length before ++ so.fed) ++ v) (ap (λ (v : List ℕ). take count rest ++ v) e ∙ take-append-drop count rest)

  -- a piece was refused
  pub fed_kept : (rest next : List ℕ) (spare new_spare : ℕ) (now : Option (List ℕ)) (now_reads : ℕ) (sink new_sink : Fed) (left : ℕ)
      → HasFed before rest turns spare known now reads now_reads kept sink left → new_sink ≡ sink → next ≡ rest → new_spare ≡ spare
      → HasFed before next turns new_spare known now reads now_reads kept new_sink left
  fed_kept rest next spare new_spare now now_reads sink new_sink left so same stays even =
      let P : Fed → Type 0 = λ s. HasFed before rest turns spare known now reads now_reads kept s left in
      let Q : List ℕ → Type 0 = λ v. HasFed before v turns spare known now reads now_reads kept new_sink left in
      let R : ℕ → Type 0 = λ n. HasFed before next turns n known now reads now_reads kept new_sink left in
      subst R (sym even) (subst Q (sym stays) (subst P (sym same) so))

  module _ (rest : List ℕ) (spare : ℕ) (now : Option (List ℕ)) (now_reads : ℕ) (sink : Fed) (left : ℕ) (so : HasFed before rest turns spare known now reads now_reads kept sink left) (h : HasHead before kept) where
    -- where nothing is left to feed and the body is not whole
    short : 1 ≤ left → rest ≡ [] → length (pending before kept so.fed rest) < kept.length + kept.body
    short some nil =
        omega (arith, so.size, some, ap length nil, length-append (take kept.length before ++ so.fed) rest, length-append (take kept.length before) so.fed, length-take kept.length before)

    pub fed_cut : 1 ≤ left → rest ≡ [] → IsAtEnd now → (society : ℕ) → EndsSo society (pending before kept so.fed rest) now Bad
    fed_cut some nil is_end = ended_short _ now kept is_end (pending_head before so.fed rest kept h) (short some nil)

    pub fed_awaits : 1 ≤ left → rest ≡ [] → Awaits (pending before kept so.fed rest)
    fed_awaits some nil = awaits_body _ kept (pending_head before so.fed rest kept h) (short some nil)

    -- memory was refused for the body of a transmission
    pub fed_refused : (society : ℕ) → 1 ≤ left → PutsTransmission society h.0 → EndsSo society (pending before kept so.fed rest) now Busy
    unfolding pending_head
    fed_refused society some puts = ended_refused society _ now kept (pending_head before so.fed rest kept h) puts (omega (arith, so.size, some))

    -- all was fed
    pub fed_is_part : left ≡ 0 → IsPart (record { head = h.0; body = so.fed })
    fed_is_part none =
        let all : kept.body ≡ length so.fed = omega (arith, so.size, none) in
        record { valid = h.2.reads.0; short = h.2.short; few = h.2.few; body = h.3.body ∙ ap Sized all }

    pub fed_whole_part : pending before kept so.fed rest ≡ (print_request h.0 ++ so.fed) ++ rest
    fed_whole_part = ap (λ (v : List ℕ). (v ++ so.fed) ++ rest) (head_text before kept h)
