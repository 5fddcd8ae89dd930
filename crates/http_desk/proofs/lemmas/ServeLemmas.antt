-- Lemmas on a connection: what was served so far, one more request, and its end.
use Rattle.std.proofs.Common.{◌≡◌, inl, inr, ℕ, ◌+◌, ◌*◌, ◌<◌, ◌≤◌, Bool, true, false, List, [], ◌∷◌, ◌++◌, length, Option, Result, Ok, Err, refl, sym, ◌∙◌, ap, subst, arith, append_assoc, length-append}
use Rattle.std.specs.Prelude.{IfSome, IfOk, IfErr, IsTrue, unwrap_or, ◌^◌}
use Rattle.std.specs.List.{flat_map, AllByRecursion}
use Rattle.std.proofs.lemmas.List.{append-nil}
use Rattle.std.proofs.lemmas.Grind.{flat_map-append}
use Rattle.std.specs.Io.KnownBytes.{Appends, Consumes}
use Rattle.httparse.specs.Grammar.{print_request}
use Rattle.share_rules.specs.declared.office.Office.{Office}
use Rattle.society_core.specs.Requests.{Reply}
use Rattle.society_core.specs.State.{Rises, State}
use Rattle.http_desk.specs.declared.connection.Served.{Served}
use Rattle.http_text.specs.declared.connection_end.End.{End}
use Rattle.http_text.specs.declared.connection_end.End.TheVariants.{Closed}
use Rattle.http_desk.specs.declared.counted.Counted.{Counted}
use Rattle.http_desk.specs.declared.fault.DeskFault.{DeskFault}
use Rattle.http_desk.specs.declared.fault.FaultKind.{FaultKind}
use Rattle.http_desk.specs.declared.fault.FaultKind.TheVariants.{Read, Write, Turns, Memory}
use Rattle.http_desk.specs.declared.input.Input.{Input}
use Rattle.http_text.specs.BodyLength.{closes}
use Rattle.http_desk.specs.Counted.{AppendsFront, Known, TakesAtLeast, TakesAtMost, counted_on, empty_reads_of, failures_of, inner_of, reads_of}
use Rattle.http_desk.specs.Input.{BeforeEach, IsPiece, all_of, unread, ReadsOn}
use Rattle.http_desk.specs.Outbox.{Sends}
use Rattle.http_text.specs.Part.{Part, print_part, IsOpenPart, IsPart}
use Rattle.http_text.specs.Reads.{Awaits, Cuts, IsRemainder, ReadsAsRequests}
use Rattle.http_desk.specs.Serves.{AreAnswered, Breaks, CausedBy, IsAwaiting, IsGivenUp, IsServed, KeepsTurns, NeedsMore, Serves, Steps, Stopped, Unwritten, Written}
use Rattle.http_text.specs.Text.{reply_text, texts, ending}
use Rattle.http_desk.specs.Upcoming.{EndsSo, StopsBy}
use Rattle.http_desk.proofs.lemmas.AnsweredLemmas.{answered_clean, none_answered, one_answered_on}
use Rattle.http_text.proofs.lemmas.CuttingLemmas.{none_while_awaited}
use Rattle.http_text.proofs.lemmas.HeadLemmas.{print_request-some}
use Rattle.http_desk.proofs.lemmas.UpcomingLemmas.{all_append, before_behind, before_join, pieces_append}
use Rattle.http_desk.proofs.lemmas.Known.{Appends-none, AppendsFront-is, Consumes-none, Consumes-join, Consumes-is, Sends-cut, Sends-flushed, Sends-front, Sends-is, Sends-more, Sends-none, Sends-then, counted_join, counted_most, counted_none, given_of}

-- what was served so far: requests that left the connection open, bytes that were read and not answered yet, and texts that wait
pub record SoFar {S : Type 0} (state : S → State) (known now_known : Option (List ℕ)) (pending : List ℕ) (spare turns reads now_reads : ℕ) (old now : S) (holds now_holds : Option (List ℕ)) (waiting : List ℕ) (requests : ℕ) : Type 0 where
  pub parts : List Part
  pub replies : List Reply
  pub spent : ℕ
  pub each : AllByRecursion IsOpenPart parts
  pub consumed : Consumes known now_known (flat_map print_part parts ++ pending)
  pub answers : AreAnswered state parts replies old now
  pub written : Sends holds now_holds (texts parts replies) waiting
  pub count : requests ≡ length parts
  pub turned : turns ≡ spare + spent
  pub counts : now_reads ≡ counted_on reads spent
  pub fits : requests + length pending ≤ spent * 16384
  pub least : spent ≤ length (flat_map print_part parts ++ pending)
  pub most : length (flat_map print_part parts ++ pending) ≤ spent * 16384
  pub pieces : List (List ℕ)
  pub joined : flat_map print_part parts ++ pending ≡ all_of pieces
  pub number : length pieces ≡ spent
  pub pieces_are : AllByRecursion IsPiece pieces
  pub needed : BeforeEach IsAwaiting [] pieces

-- ---- one more

texts-more : (parts : List Part) (replies : List Reply) (part : Part) (reply : Reply) → length replies ≡ length parts
    → texts (parts ++ part ∷ []) (replies ++ reply ∷ []) ≡ texts parts replies ++ reply_text reply (closes part.head)
texts-more [] [] part reply e = append-nil (reply_text reply (closes part.head))
texts-more [] (r ∷ replies) part reply e = absurd (omega arith)
texts-more (p ∷ parts) [] part reply e = absurd (omega arith)
texts-more (p ∷ parts) (r ∷ replies) part reply e =
    ap (λ (v : List ℕ). reply_text r (closes p.head) ++ v) (texts-more parts replies part reply (omega arith))
    ∙ sym (append_assoc (reply_text r (closes p.head)) (texts parts replies) (reply_text reply (closes part.head)))

each-more : (parts : List Part) (part : Part) → AllByRecursion IsOpenPart parts → IsOpenPart part → AllByRecursion IsOpenPart (parts ++ part ∷ [])
each-more [] part all is = (is, tt)
each-more (p ∷ parts) part all is = (all.0, each-more parts part all.1 is)

printed-more : (parts : List Part) (part : Part) → flat_map print_part (parts ++ part ∷ []) ≡ flat_map print_part parts ++ print_part part
printed-more parts part =
    flat_map-append print_part parts (part ∷ []) ∙ ap (λ (v : List ℕ). flat_map print_part parts ++ v) (append-nil (print_part part))

pub print_part-some : (part : Part) → 1 ≤ length (print_part part)
print_part-some part = omega (arith, length-append (print_request part.head) part.body, print_request-some part.head)

-- ---- so far

pub SoFar-start : {S : Type 0} (state : S → State) (known : Option (List ℕ)) (pending : List ℕ) (spare : ℕ) (turns reads : ℕ) (desk : S) (holds : Option (List ℕ)) (waiting : List ℕ)
    → pending ≡ [] → spare ≡ turns → waiting ≡ [] → reads < 2 ^ 64
    → SoFar state known known pending spare turns reads reads desk desk holds holds waiting 0
SoFar-start state known pending spare turns reads desk holds waiting e t w small = record {
  parts = [];
  replies = [];
  spent = 0;
  each = tt;
  consumed = Consumes-is known known [] pending (Consumes-none known) (sym e);
  answers = none_answered state desk;
  written = Sends-is holds holds waiting [] waiting (Sends-none holds waiting) w;
  count = refl;
  turned = omega (arith, t);
  counts = counted_none reads small;
  fits = omega (arith, ap length e);
  least = omega arith;
  most = omega (arith, ap length e);
  pieces = [];
  joined = e;
  number = refl;
  pieces_are = tt;
  needed = tt;
}

pub SoFar-reads : {S : Type 0} (state : S → State) (known now later : Option (List ℕ)) (pending next : List ℕ) (spare rest_spare : ℕ) (turns reads now_reads later_reads : ℕ) (old mid : S) (holds mid_holds : Option (List ℕ)) (waiting : List ℕ) (requests : ℕ)
    → SoFar state known now pending spare turns reads now_reads old mid holds mid_holds waiting requests → ReadsOn Awaits pending next spare rest_spare now later now_reads later_reads
    → SoFar state known later next rest_spare turns reads later_reads old mid holds mid_holds waiting requests
SoFar-reads state known now later pending next spare rest_spare turns reads now_reads later_reads old mid holds mid_holds waiting requests so r =
    let front = flat_map print_part so.parts in
    let joined : (front ++ pending) ++ r.more ≡ front ++ next = append_assoc front pending r.more ∙ ap (λ (v : List ℕ). front ++ v) (sym r.grown) in
    let longer = ap length r.grown ∙ length-append pending r.more in
    record {
      parts = so.parts;
      replies = so.replies;
      spent = so.spent + r.spent;
      each = so.each;
      consumed = Consumes-is known later _ _ (Consumes-join known now later _ r.more so.consumed r.consumed) joined;
      answers = so.answers;
      written = so.written;
      count = so.count;
      turned = omega (arith, so.turned, r.turned);
      counts = r.counts ∙ ap (λ (v : ℕ). counted_on v r.spent) so.counts ∙ counted_join reads so.spent r.spent;
      fits = omega (arith, so.fits, r.most, longer);
      least = omega (arith, so.least, r.least, longer, length-append front pending, length-append front (next));
      most = omega (arith, so.most, r.most, longer, length-append front pending, length-append front (next));
      pieces = so.pieces ++ r.pieces;
      joined =
          sym joined ∙ ap (λ (v : List ℕ). v ++ r.more) so.joined ∙ ap (λ (v : List ℕ). all_of so.pieces ++ v) r.joined
          ∙ sym (all_append so.pieces r.pieces);
      number = omega (arith, so.number, r.number, length-append so.pieces r.pieces);
      pieces_are = pieces_append so.pieces r.pieces so.pieces_are r.each;
      needed =
          before_join IsAwaiting [] (front ++ pending) so.pieces r.pieces so.joined so.needed
          (before_behind Awaits IsAwaiting front (λ v awaits. (so.parts, v, record { whole = refl; each = so.each }, awaits)) pending r.pieces r.needed);
    }

-- texts were sent
pub SoFar-sends : {S : Type 0} (state : S → State) (known now : Option (List ℕ)) (pending : List ℕ) (spare : ℕ) (turns reads now_reads : ℕ) (old mid : S) (holds mid_holds last : Option (List ℕ)) (waiting later : List ℕ) (requests : ℕ)
    → SoFar state known now pending spare turns reads now_reads old mid holds mid_holds waiting requests → Sends mid_holds last waiting later
    → SoFar state known now pending spare turns reads now_reads old mid holds last later requests
SoFar-sends state known now pending spare turns reads now_reads old mid holds mid_holds last waiting later requests so sends = record {
  parts = so.parts;
  replies = so.replies;
  spent = so.spent;
  each = so.each;
  consumed = so.consumed;
  answers = so.answers;
  written =
      Sends-is holds last _ _ later
      (Sends-more holds mid_holds last (texts so.parts so.replies) waiting [] later so.written
      (Sends-is mid_holds last waiting (waiting ++ []) later sends (sym (append-nil waiting))))
      (append-nil (texts so.parts so.replies));
  count = so.count;
  turned = so.turned;
  counts = so.counts;
  fits = so.fits;
  least = so.least;
  most = so.most;
  pieces = so.pieces;
  joined = so.joined;
  number = so.number;
  pieces_are = so.pieces_are;
  needed = so.needed;
}

-- bytes were read, and texts sent before
pub SoFar-next : {S : Type 0} (state : S → State) (known now later : Option (List ℕ)) (pending next : List ℕ) (spare rest_spare : ℕ) (turns reads now_reads later_reads : ℕ) (old mid : S) (holds mid_holds last : Option (List ℕ)) (waiting rest : List ℕ) (requests : ℕ)
    → SoFar state known now pending spare turns reads now_reads old mid holds mid_holds waiting requests → ReadsOn Awaits pending next spare rest_spare now later now_reads later_reads → Sends mid_holds last waiting rest
    → SoFar state known later next rest_spare turns reads later_reads old mid holds last rest requests
SoFar-next state known now later pending next spare rest_spare turns reads now_reads later_reads old mid holds mid_holds last waiting rest requests so r sends =
    SoFar-sends state known later next rest_spare turns reads later_reads old mid holds mid_holds last waiting rest requests
    (SoFar-reads state known now later pending next spare rest_spare turns reads now_reads later_reads old mid holds mid_holds waiting requests so r) sends

-- the desk is the same
pub SoFar-same : {S : Type 0} (state : S → State) (mid_desk new_desk : S) (known now : Option (List ℕ)) (pending : List ℕ) (spare turns reads now_reads : ℕ) (old : S) (holds mid_holds : Option (List ℕ)) (waiting : List ℕ) (requests : ℕ)
    → new_desk ≡ mid_desk → SoFar state known now pending spare turns reads now_reads old mid_desk holds mid_holds waiting requests
    → SoFar state known now pending spare turns reads now_reads old new_desk holds mid_holds waiting requests
SoFar-same {S} state mid_desk new_desk known now pending spare turns reads now_reads old holds mid_holds waiting requests same so =
    let P : S → Type 0 = λ d. SoFar state known now pending spare turns reads now_reads old d holds mid_holds waiting requests in
    subst P (sym same) so

pub SoFar-input : {S : Type 0} (state : S → State) (known now : Option (List ℕ)) (input new_input : Input) (turns reads now_reads : ℕ) (old mid : S) (holds mid_holds : Option (List ℕ)) (waiting : List ℕ) (requests : ℕ)
    → new_input ≡ input → SoFar state known now (unread input) input.turns turns reads now_reads old mid holds mid_holds waiting requests
    → SoFar state known now (unread new_input) new_input.turns turns reads now_reads old mid holds mid_holds waiting requests
SoFar-input state known now input new_input turns reads now_reads old mid holds mid_holds waiting requests same so =
    let P : Input → Type 0 = λ i. SoFar state known now (unread i) i.turns turns reads now_reads old mid holds mid_holds waiting requests in
    subst P (sym same) so

-- ---- the end

-- the requests were read and answered, the connection ends so, and texts wait
pub record Finishes {S : Type 0} (state : S → State) (known : Option (List ℕ)) (old now : S) (holds now_holds : Option (List ℕ)) (waiting : List ℕ) (requests : ℕ) (end : End) : Type 0 where
  pub bytes : List ℕ
  pub given : IfSome known (λ all. all ≡ bytes)
  pub parts : List Part
  pub replies : List Reply
  pub reads : ReadsAsRequests (state old).office.society bytes parts end
  pub answers : AreAnswered state parts replies old now
  pub written : Sends holds now_holds (texts parts replies) waiting
  pub count : requests ≡ length parts

module _ {S : Type 0} (state : S → State) (known : Option (List ℕ)) (old mid : S) (holds mid_holds last : Option (List ℕ)) (waiting : List ℕ) (requests : ℕ) (end : End) (f : Finishes state known old mid holds mid_holds waiting requests end) where
  served_so : Appends mid_holds last (waiting ++ ending end) → Serves state known old mid holds last requests
  served_so appends = record {
    bytes = f.bytes;
    given = f.given;
    parts = f.parts;
    replies = f.replies;
    end = end;
    reads = f.reads;
    answers = f.answers;
    written = Sends-then holds mid_holds last (texts f.parts f.replies) waiting (ending end) f.written appends;
    count = f.count;
  }

  unwritten_so : AppendsFront mid_holds last (waiting ++ ending end) → Breaks state (record { kind = Write; requests = requests }) known old mid holds last
  unwritten_so front = record {
    bytes = f.bytes;
    given = f.given;
    parts = f.parts;
    replies = f.replies;
    answers = f.answers;
    written = inr (end, f.reads, Sends-front holds mid_holds last (texts f.parts f.replies) waiting (ending end) f.written front);
    count = f.count;
  }

  pub ended_served : (r : Result Served DeskFault) → IfOk r (λ served. (served.requests ≡ requests) × Appends mid_holds last (waiting ++ ending end))
      → IfOk r (λ served. Serves state known old mid holds last served.requests)
  ended_served (Ok served) p = let P : ℕ → Type 0 = λ n. Serves state known old mid holds last n in subst P (sym p.0) (served_so p.1)
  ended_served (Err e) p = tt

  pub ended_fault : (failures new_failures : ℕ) (r : Result Served DeskFault)
      → IfErr r (λ fault. (fault ≡ record { kind = Write; requests = requests }) × AppendsFront mid_holds last (waiting ++ ending end) × Rises failures new_failures)
      → IfErr r (λ fault. Breaks state fault known old mid holds last)
  ended_fault failures new_failures (Ok served) p = tt
  ended_fault failures new_failures (Err fault) p =
      let P : DeskFault → Type 0 = λ f. Breaks state f known old mid holds last in subst P (sym p.0) (unwritten_so p.1)

-- a write that failed at the end is the cause
pub ended_cause : {S R W : Type 0} (state : S → State) (remaining : R → Option (List ℕ)) (contents : W → Option (List ℕ)) (desk new_desk : S) (reader new_reader : Counted R) (writer mid_writer new_writer : Counted W) (turns requests : ℕ) (bytes : List ℕ) (r : Result Served DeskFault)
    → failures_of mid_writer ≡ failures_of writer
    → IfErr r (λ fault. (fault ≡ record { kind = Write; requests = requests }) × AppendsFront (contents (inner_of mid_writer)) (contents (inner_of new_writer)) bytes × Rises (failures_of mid_writer) (failures_of new_writer))
    → IfErr r (λ fault. Breaks state fault (remaining (inner_of reader)) desk new_desk (contents (inner_of writer)) (contents (inner_of new_writer)))
    → IfErr r (IsGivenUp state remaining contents desk new_desk reader new_reader writer new_writer turns)
ended_cause state remaining contents desk new_desk reader new_reader writer mid_writer new_writer turns requests bytes (Ok served) same p b = tt
ended_cause state remaining contents desk new_desk reader new_reader writer mid_writer new_writer turns requests bytes (Err fault) same p b =
    record { breaks = b; cause = subst P (sym p.0) (subst Q same p.2) }
  where
    P : DeskFault → Type 0
    P f = CausedBy f.kind f.requests turns remaining reader new_reader writer new_writer

    Q : ℕ → Type 0
    Q n = Rises n (failures_of new_writer)

-- ---- what was read

-- an end at a desk that stayed the same
pub ends_there : {S : Type 0} (state : S → State) (desk new_desk : S) (bytes : List ℕ) (known : Option (List ℕ)) (end : End) → new_desk ≡ desk
    → EndsSo (state desk).office.society bytes known end → EndsSo (state new_desk).office.society bytes known end
ends_there {S} state desk new_desk bytes known end same ends = subst (λ (d : S). EndsSo (state d).office.society bytes known end) (sym same) ends

cut : (bytes left : List ℕ) (parts : List Part) (held : List ℕ) → AllByRecursion IsOpenPart parts → bytes ≡ (flat_map print_part parts ++ held) ++ left → Cuts bytes parts (held ++ left)
cut bytes left parts held each e = record { whole = e ∙ append_assoc (flat_map print_part parts) held left; each = each }

module _ {S : Type 0} (state : S → State) (known now : Option (List ℕ)) (pending : List ℕ) (spare : ℕ) (turns reads now_reads : ℕ) (old mid : S) (holds mid_holds : Option (List ℕ)) (waiting : List ℕ) (requests : ℕ) (so : SoFar state known now pending spare turns reads now_reads old mid holds mid_holds waiting requests) where
  -- all bytes, as far as they are known
  abbrev all_so : List ℕ
  all_so = (flat_map print_part so.parts ++ pending) ++ unwrap_or now []

  cut_so : Cuts all_so so.parts (pending ++ unwrap_or now [])
  cut_so = cut all_so (unwrap_or now []) so.parts pending so.each refl

  pub finishes : (end : End) → EndsSo (state mid).office.society pending now end → Finishes state known old mid holds mid_holds waiting requests end
  finishes end ends =
      let ends_there = subst (λ (n : ℕ). IsRemainder n (pending ++ unwrap_or now []) [] end) (ap (λ (o : Office). o.society) so.answers.office) ends in
      record {
        bytes = all_so;
        given = given_of known now _ so.consumed;
        parts = so.parts;
        replies = so.replies;
        reads = (so.parts, [], pending ++ unwrap_or now [], sym (append-nil so.parts), cut_so, ends_there);
        answers = so.answers;
        written = so.written;
        count = so.count;
      }

  needed_so : Awaits pending → NeedsMore known now requests
  needed_so awaits = record {
    parts = so.parts;
    rest = pending;
    each = so.each;
    consumed = so.consumed;
    none = none_while_awaited pending awaits;
    awaits = awaits;
    count = so.count;
  }

  took_so : spare ≡ 0 → TakesAtLeast known now turns
  took_so e = (flat_map print_part so.parts ++ pending, so.consumed, omega (arith, so.least, so.turned, e))

  counted_so : spare ≡ 0 → now_reads ≡ counted_on reads turns
  counted_so e = let same : so.spent ≡ turns = omega (arith, so.turned, e) in so.counts ∙ ap (λ (n : ℕ). counted_on reads n) same

  pub most_reads : now_reads ≤ reads + turns
  most_reads = omega (arith, so.counts, counted_most reads so.spent, so.turned)

  pub most_bytes : TakesAtMost known now (turns * 16384)
  most_bytes = (flat_map print_part so.parts ++ pending, so.consumed, omega (arith, so.most, so.turned))

  stopped : (last : Option (List ℕ)) → Appends mid_holds last waiting → Stopped all_so so.parts so.replies holds last
  stopped last appends = (pending ++ unwrap_or now [], cut_so, Sends-flushed holds mid_holds last _ waiting so.written appends)

  broken : (kind : FaultKind) (last : Option (List ℕ)) → Written (state old).office.society kind all_so so.parts so.replies holds last → Breaks state (record { kind = kind; requests = requests }) known old mid holds last
  broken kind last w = record {
    bytes = all_so;
    given = given_of known now _ so.consumed;
    parts = so.parts;
    replies = so.replies;
    answers = so.answers;
    written = w;
    count = so.count;
  }

  -- what was written where no request came
  pub stopped_so : (kind : FaultKind) (last : Option (List ℕ)) (reader writer : ℕ × ℕ) → StopsBy kind pending spare reader writer mid_holds last waiting
      → Breaks state (record { kind = kind; requests = requests }) known old mid holds last
  stopped_so Read last reader writer by = broken Read last (stopped last by.2)
  stopped_so Turns last reader writer by = broken Turns last (stopped last by.2)
  stopped_so Write last reader writer by =
      broken Write last (inl (pending ++ unwrap_or now [], cut_so, Sends-cut holds mid_holds last _ waiting so.written by.1))
  stopped_so Memory last reader writer by = absurd by

pub rises_from : (a b c : ℕ) → a ≡ b → Rises a c → Rises b c
rises_from a b c same r = let P : ℕ → Type 0 = λ n. Rises n c in subst P same r

-- no request came: what there was before, and why
module _ {S R W : Type 0} (state : S → State) (remaining : R → Option (List ℕ)) (contents : W → Option (List ℕ)) (desk mid_desk : S) (reader mid_reader new_reader : Counted R) (writer mid_writer new_writer : Counted W) (pending : List ℕ) (spare : ℕ) (turns requests : ℕ) (waiting : List ℕ)
    (so : SoFar state (remaining (inner_of reader)) (remaining (inner_of new_reader)) pending spare turns (reads_of reader) (reads_of new_reader) desk mid_desk (contents (inner_of writer)) (contents (inner_of mid_writer)) waiting requests)
    (same_reader : failures_of mid_reader ≡ failures_of reader) (same_writer : failures_of mid_writer ≡ failures_of writer) where
  caused : (kind : FaultKind) → StopsBy kind pending spare (failures_of mid_reader, failures_of new_reader) (failures_of mid_writer, failures_of new_writer) (contents (inner_of mid_writer)) (contents (inner_of new_writer)) waiting
      → CausedBy kind requests turns remaining reader new_reader writer new_writer
  caused Read by =
      (rises_from _ _ _ same_reader by.1, needed_so state _ _ pending spare turns _ _ _ _ _ _ waiting requests so by.0)
  caused Turns by = (
    counted_so state _ _ pending spare turns _ _ _ _ _ _ waiting requests so by.1,
    took_so state _ _ pending spare turns _ _ _ _ _ _ waiting requests so by.1,
    needed_so state _ _ pending spare turns _ _ _ _ _ _ waiting requests so by.0,
  )
  caused Write by = rises_from _ _ _ same_writer by.0
  caused Memory by = absurd by

  pub given_up : (kind : FaultKind) → StopsBy kind pending spare (failures_of mid_reader, failures_of new_reader) (failures_of mid_writer, failures_of new_writer) (contents (inner_of mid_writer)) (contents (inner_of new_writer)) waiting
      → IsGivenUp state remaining contents desk mid_desk reader new_reader writer new_writer turns (record { kind = kind; requests = requests })
  given_up kind by = record {
    breaks = stopped_so state _ _ pending spare turns _ _ _ _ _ _ waiting requests so kind _ _ _ by;
    cause = caused kind by;
  }

-- the turns were kept
pub keeps_turns : {S R : Type 0} (state : S → State) (remaining : R → Option (List ℕ)) (reader new_reader : Counted R) (pending : List ℕ) (spare : ℕ) (turns : ℕ) (old mid : S) (holds mid_holds : Option (List ℕ)) (waiting : List ℕ) (requests : ℕ)
    → empty_reads_of new_reader ≤ empty_reads_of reader + 1
    → SoFar state (remaining (inner_of reader)) (remaining (inner_of new_reader)) pending spare turns (reads_of reader) (reads_of new_reader) old mid holds mid_holds waiting requests
    → KeepsTurns remaining reader new_reader turns
keeps_turns state remaining reader new_reader pending spare turns old mid holds mid_holds waiting requests ends so = record {
  pieces = so.pieces;
  consumed = Consumes-is _ _ _ _ so.consumed so.joined;
  each = so.pieces_are;
  needed = so.needed;
  counts = so.counts ∙ ap (λ (n : ℕ). counted_on (reads_of reader) n) (sym so.number);
  within = omega (arith, so.number, so.turned);
  ends = ends;
  reads = most_reads state _ _ pending spare turns _ _ old mid holds mid_holds waiting requests so;
  most = most_bytes state _ _ pending spare turns _ _ old mid holds mid_holds waiting requests so;
}

-- a reader that was not read keeps them
pub no_turn : {R : Type 0} (remaining : R → Option (List ℕ)) (reader : Counted R) (turns : ℕ) → reads_of reader < 2 ^ 64 → KeepsTurns remaining reader reader turns
no_turn remaining reader turns fits = record {
  pieces = [];
  consumed = Consumes-none (remaining (inner_of reader));
  each = tt;
  needed = tt;
  counts = counted_none (reads_of reader) fits;
  within = omega arith;
  ends = omega arith;
  reads = omega arith;
  most = ([], Consumes-none (remaining (inner_of reader)), omega arith);
}

-- ---- one more request

module _ {S : Type 0} (state : S → State) (known now : Option (List ℕ)) (pending left : List ℕ) (spare turns reads now_reads : ℕ) (old mid new : S) (holds mid_holds last : Option (List ℕ)) (waiting later : List ℕ) (requests : ℕ)
    (so : SoFar state known now pending spare turns reads now_reads old mid holds mid_holds waiting requests) (part : Part) (is : IsPart part) (whole : pending ≡ print_part part ++ left)
    (close : Bool) (is_last : close ≡ closes part.head) (reply : Reply) (step : Steps state mid new part reply) where
  longer : length pending ≡ length (print_part part) + length left
  longer = ap length whole ∙ length-append (print_part part) left

  joined : flat_map print_part (so.parts ++ part ∷ []) ++ left ≡ flat_map print_part so.parts ++ pending
  joined =
      ap (λ (v : List ℕ). v ++ left) (printed-more so.parts part)
      ∙ append_assoc (flat_map print_part so.parts) (print_part part) left
      ∙ ap (λ (v : List ℕ). flat_map print_part so.parts ++ v) (sym whole)

  answers : AreAnswered state (so.parts ++ part ∷ []) (so.replies ++ reply ∷ []) old new
  answers = one_answered_on state so.parts so.replies old mid new part reply so.answers step

  texts_are : texts so.parts so.replies ++ reply_text reply close ≡ texts (so.parts ++ part ∷ []) (so.replies ++ reply ∷ [])
  texts_are =
      ap (λ b. texts so.parts so.replies ++ reply_text reply b) is_last
      ∙ sym (texts-more so.parts so.replies part reply so.answers.each)

  counted : requests + 1 ≡ length (so.parts ++ part ∷ [])
  counted = omega (arith, so.count, length-append so.parts (part ∷ []))

  pub fewer : length left < length pending
  fewer = omega (arith, longer, print_part-some part)

  pub countable : requests + 1 ≤ turns * 16384
  countable = omega (arith, so.fits, longer, so.turned, print_part-some part)

  is_open : close ≡ false → IsOpenPart part
  is_open e = record { is_part = is; open_after = sym is_last ∙ e }

  written_on : Sends mid_holds last (waiting ++ reply_text reply close) later → Sends holds last (texts (so.parts ++ part ∷ []) (so.replies ++ reply ∷ [])) later
  written_on sends =
      Sends-is holds last _ _ later
      (Sends-more holds mid_holds last (texts so.parts so.replies) waiting (reply_text reply close) later so.written sends) texts_are

  pub goes_on : close ≡ false → Sends mid_holds last (waiting ++ reply_text reply close) later → SoFar state known now left spare turns reads now_reads old new holds last later (requests + 1)
  goes_on e sends = record {
    parts = so.parts ++ part ∷ [];
    replies = so.replies ++ reply ∷ [];
    spent = so.spent;
    each = each-more so.parts part so.each (is_open e);
    consumed = Consumes-is known now _ _ so.consumed (sym joined);
    answers = answers;
    written = written_on sends;
    count = counted;
    turned = so.turned;
    counts = so.counts;
    fits = omega (arith, so.fits, longer, print_part-some part);
    least = omega (arith, so.least, ap length joined);
    most = omega (arith, so.most, ap length joined);
    pieces = so.pieces;
    joined = joined ∙ so.joined;
    number = so.number;
    pieces_are = so.pieces_are;
    needed = so.needed;
  }

  -- all bytes, as far as they are known
  abbrev every : List ℕ
  every = (flat_map print_part so.parts ++ pending) ++ unwrap_or now []

  -- the rest of the bytes begins with the request
  begun : (rest : List ℕ) → pending ++ rest ≡ print_part part ++ (left ++ rest)
  begun rest = ap (λ (v : List ℕ). v ++ rest) whole ∙ append_assoc (print_part part) left rest

  reads_closed : close ≡ true → ReadsAsRequests (state old).office.society every (so.parts ++ part ∷ []) Closed
  reads_closed e = (
    so.parts,
    part ∷ [],
    pending ++ unwrap_or now [],
    refl,
    cut every (unwrap_or now []) so.parts pending so.each refl,
    (left ++ unwrap_or now [], is, sym is_last ∙ e, begun (unwrap_or now [])),
  )

  pub closes_on : close ≡ true → Sends mid_holds last (waiting ++ reply_text reply close) later → Finishes state known old new holds last later (requests + 1) Closed
  closes_on e sends = record {
    bytes = every;
    given = given_of known now _ so.consumed;
    parts = so.parts ++ part ∷ [];
    replies = so.replies ++ reply ∷ [];
    reads = reads_closed e;
    answers = answers;
    written = written_on sends;
    count = counted;
  }

  front_written : AppendsFront mid_holds last (waiting ++ reply_text reply close) → AppendsFront holds last (texts (so.parts ++ part ∷ []) (so.replies ++ reply ∷ []))
  front_written f =
      AppendsFront-is holds last _ _ (Sends-front holds mid_holds last (texts so.parts so.replies) waiting (reply_text reply close) so.written f) texts_are

  unwritten_by : (shut : Bool) → close ≡ shut → AppendsFront holds last (texts (so.parts ++ part ∷ []) (so.replies ++ reply ∷ []))
      → Unwritten (state old).office.society every (so.parts ++ part ∷ []) (so.replies ++ reply ∷ []) holds last
  unwritten_by false e f =
      inl (
        left ++ unwrap_or now [],
        cut every (unwrap_or now []) (so.parts ++ part ∷ []) left (each-more so.parts part so.each (is_open e)) (ap (λ (v : List ℕ). v ++ unwrap_or now []) (sym joined)),
        f,
      )
  unwritten_by true e f =
      inr (Closed, reads_closed e, AppendsFront-is holds last _ _ f (sym (append-nil (texts (so.parts ++ part ∷ []) (so.replies ++ reply ∷ [])))))

  pub failed : AppendsFront mid_holds last (waiting ++ reply_text reply close) → Breaks state (record { kind = Write; requests = requests + 1 }) known old new holds last
  failed f = record {
    bytes = every;
    given = given_of known now _ so.consumed;
    parts = so.parts ++ part ∷ [];
    replies = so.replies ++ reply ∷ [];
    answers = answers;
    written = unwritten_by close refl (front_written f);
    count = counted;
  }

-- what is left to do falls
pub smaller : (old pending left : List ℕ) (turns spare : ℕ) (known later : Option (List ℕ)) (reads later_reads : ℕ) → ReadsOn Awaits old pending turns spare known later reads later_reads
    → length left < length pending → length left + spare * 16384 < length old + turns * 16384
smaller old pending left turns spare known later reads later_reads r less =
    omega (arith, less, r.most, r.turned, ap length r.grown, length-append old r.more)

-- nothing was read
pub nothing_read : {S : Type 0} (state : S → State) (known : Option (List ℕ)) (desk : S) (holds : Option (List ℕ)) → Breaks state (record { kind = Memory; requests = 0 }) known desk desk holds holds
nothing_read state known desk holds = record {
  bytes = unwrap_or known [];
  given = given_of known known [] (Consumes-none known);
  parts = [];
  replies = [];
  answers = none_answered state desk;
  written = (unwrap_or known [], record { whole = refl; each = tt }, Appends-none holds);
  count = refl;
}

-- however a connection ended, its requests were answered in turn: the office stays, and a store that is clean was clean
module _ {S R W : Type 0} (state : S → State) (remaining : Known R) (contents : Known W) (desk new_desk : S) (reader new_reader : Counted R) (writer new_writer : Counted W) (turns : ℕ) where
  pub office_stays : (result : Result Served DeskFault) → IfOk result (IsServed state remaining contents desk new_desk reader writer new_writer)
      → IfErr result (IsGivenUp state remaining contents desk new_desk reader new_reader writer new_writer turns) → (state new_desk).office ≡ (state desk).office
  office_stays (Ok served) serves gives_up = serves.answers.office
  office_stays (Err fault) serves gives_up = gives_up.breaks.answers.office

  pub clean_falls : (result : Result Served DeskFault) → IfOk result (IsServed state remaining contents desk new_desk reader writer new_writer)
      → IfErr result (IsGivenUp state remaining contents desk new_desk reader new_reader writer new_writer turns) → IsTrue (state new_desk).is_clean → IsTrue (state desk).is_clean
  clean_falls (Ok served) serves gives_up = answered_clean state _ _ desk new_desk serves.answers.steps
  clean_falls (Err fault) serves gives_up = answered_clean state _ _ desk new_desk gives_up.breaks.answers.steps
