-- Lemmas on the next request: what was read for it, and what is told.
use Rattle.std.proofs.Common.{◌≡◌, inl, inr, ℕ, ◌+◌, ◌-◌, Bool, List, [], ◌++◌, length, take, drop, Option, Result, Ok, Err, sym, ◌∙◌, ap, subst, arith, append_assoc, length-append}
use Rattle.std.specs.Prelude.{◌⊎◌, IfErr, IfOk}
use Rattle.std.specs.Io.KnownBytes.{Appends}
use Rattle.std.proofs.lemmas.List.{append-nil, drop_at}
use Rattle.std.proofs.Math.Seq.{take-append_seam}
use Rattle.cwr_files.specs.Fed.{Fed, WasFed}
use Rattle.httparse.specs.Grammar.{RequestHead, print_request}
use Rattle.society_core.specs.Requests.{Puts, Query, Reply}
use Rattle.society_core.specs.Runs.{Calls}
use Rattle.society_core.specs.State.{State}
use Rattle.society_core.specs.declared.transmission_key.TransmissionKey.{TransmissionKey}
use Rattle.http_desk.specs.Answering.{ComesNext, IsLeft, TakesRequest}
use Rattle.http_desk.specs.Counted.{failures_of, inner_of}
use Rattle.http_desk.specs.Feeding.{HasFed, pending}
use Rattle.http_desk.specs.Head.{HasHead}
use Rattle.http_desk.specs.Input.{unread, FailsBy, ReadsAwaited}
use Rattle.http_desk.specs.Outbox.{Sends}
use Rattle.http_text.specs.Part.{BeginsWithHead, print_part}
use Rattle.http_text.specs.BodyLength.{is_put}
use Rattle.http_text.specs.Path.{query_for}
use Rattle.http_text.specs.Reads.{Awaits}
use Rattle.http_desk.specs.Serves.{Steps}
use Rattle.http_text.specs.Told.{TellsReply, told_reply}
use Rattle.http_desk.specs.Upcoming.{HasPart, IsUpcoming, StopsBy}
use Rattle.http_desk.specs.declared.answering.Next.{Next}
use Rattle.http_desk.specs.declared.counted.Counted.{Counted}
use Rattle.http_desk.specs.declared.fault.FaultKind.{FaultKind}
use Rattle.http_desk.specs.declared.fault.FaultKind.TheVariants.{Read, Write, Turns, Memory}
use Rattle.http_desk.specs.declared.head.Head.{Head}
use Rattle.http_desk.specs.declared.input.Input.{Input}
use Rattle.http_text.specs.declared.told.Told.{Told}
use Rattle.http_desk.specs.declared.upcoming.Upcoming.TheVariants.{Request}
use Rattle.http_desk.specs.Asks.{AsksFor, PartAsks}
use Rattle.http_text.specs.declared.requests.Wanted.{Wanted}
use Rattle.http_text.specs.declared.requests.Wanted.TheVariants as wanted
use Rattle.http_text.proofs.lemmas.CuttingLemmas.{begins_of, none_while_awaited}
use Rattle.http_desk.proofs.lemmas.FeedingLemmas.{fed_is_part, fed_whole_part}
use Rattle.http_text.proofs.lemmas.HeadLemmas.{Begins-append, Begins-unique}
use Rattle.http_desk.proofs.lemmas.Known.{Appends-is}
use Rattle.http_text.proofs.lemmas.StepLemmas.{tells_call}
use Rattle.http_desk.proofs.lemmas.UpcomingLemmas.{ReadsOn-join}

-- ---- heads

-- what a head asks is asked by the request that begins with it
pub part_asks : (society : ℕ) (bytes later more : List ℕ) (kept other : Head) (wanted : Wanted) → HasHead bytes kept → later ≡ bytes ++ more → AsksFor society bytes kept wanted
    → PartAsks society later other wanted
part_asks society bytes later more kept other wanted h grown asks = λ has.
    let P : List ℕ → Type 0 = λ v. BeginsWithHead v h.0 (h.1 ++ more) in
    let begins = subst P (sym grown) (Begins-append bytes more h.1 h.0 h.2) in
    let same = Begins-unique later _ _ _ _ begins (begins_of has.part later has.rest has.is_part has.whole) in
    asks h has.part.body ∙ ap (λ (r : RequestHead). query_for society (is_put r.method) r.target has.part.body) same.0

-- ---- one request

-- its body lies behind its head
pub body_at : (bytes : List ℕ) (kept : Head) → (has : HasPart bytes kept) → has.part.body ≡ take ((kept.length + kept.body) - kept.length) (drop kept.length bytes)
body_at bytes kept has =
    let text = print_request has.part.head in
    let whole : bytes ≡ text ++ (has.part.body ++ has.rest) = has.whole ∙ append_assoc text has.part.body has.rest in
    let behind : drop kept.length bytes ≡ has.part.body ++ has.rest =
    ap (λ (v : List ℕ). drop kept.length v) whole ∙ drop_at text (has.part.body ++ has.rest) kept.length (sym has.is_kept.size) in
    let count : (kept.length + kept.body) - kept.length ≡ length has.part.body = omega (arith, has.size) in
    sym (ap (λ (v : List ℕ). take ((kept.length + kept.body) - kept.length) v) behind
    ∙ ap (λ (n : ℕ). take n (has.part.body ++ has.rest)) count ∙ take-append_seam has.part.body has.rest)

-- a whole request was answered, and taken
pub takes_part : {S : Type 0} (state : S → State) (desk new_desk : S) (bytes rest : List ℕ) (told : Told) (close : Bool) (kept : Head) → (has : HasPart bytes kept)
    → rest ≡ drop (kept.length + kept.body) bytes → close ≡ kept.closes → Steps state desk new_desk has.part (told_reply told)
    → TakesRequest state desk new_desk bytes rest told close
takes_part state desk new_desk bytes rest told close kept has front is step = record {
  part = has.part;
  is_part = has.is_part;
  whole = has.whole ∙ ap (λ (v : List ℕ). print_part has.part ++ v) (sym rest_is);
  is_last = is ∙ has.is_kept.last;
  step = step;
}
  where
    size_is : length (print_part has.part) ≡ kept.length + kept.body
    size_is = omega (arith, length-append (print_request has.part.head) has.part.body, has.is_kept.size, has.size)

    rest_is : rest ≡ has.rest
    rest_is = front ∙ ap (λ (v : List ℕ). drop (kept.length + kept.body) v) has.whole ∙ drop_at (print_part has.part) has.rest (kept.length + kept.body) size_is

-- a request whose body was fed was answered
pub takes_fed : {S : Type 0} (state : S → State) (desk new_desk : S) (before rest : List ℕ) (turns spare : ℕ) (known now : Option (List ℕ)) (reads now_reads : ℕ) (kept : Head) (sink : Fed) (left : ℕ) (told : Told) (key : TransmissionKey) (reply : Reply)
    → (so : HasFed before rest turns spare known now reads now_reads kept sink left) → HasHead before kept → left ≡ 0 → AsksFor (state desk).office.society before kept (wanted.Fed key)
    → TellsReply reply (told_reply told) → ((bytes : List ℕ) → WasFed sink bytes → Calls state desk new_desk (Puts key.sender key.number bytes) reply)
    → TakesRequest state desk new_desk (pending before kept so.fed rest) rest told kept.closes
takes_fed state desk new_desk before rest turns spare known now reads now_reads kept sink left told key reply so h none asks tells calls = record {
  part = record { head = h.0; body = so.fed };
  is_part = fed_is_part before turns known reads kept rest spare now now_reads sink left so h none;
  whole = fed_whole_part before turns known reads kept rest spare now now_reads sink left so h;
  is_last = h.3.last;
  step =
      let P : Query → Type 0 = λ q. Calls state desk new_desk q (told_reply told) in
      subst P (asks h so.fed) (tells_call state desk new_desk _ reply (told_reply told) tells (calls so.fed so.was_fed));
}

-- ---- what was read

pub ComesNext-after : {S R : Type 0} (state : S → State) (remaining : R → Option (List ℕ)) (desk new_desk : S) (reader mid_reader new_reader : Counted R) (input mid_input new_input : Input) (result : Result Next FaultKind)
    → ReadsAwaited remaining reader mid_reader input mid_input → ComesNext state remaining desk new_desk mid_reader new_reader mid_input new_input result
    → ComesNext state remaining desk new_desk reader new_reader input new_input result
ComesNext-after state remaining desk new_desk reader mid_reader new_reader input mid_input new_input result reads next = record {
  bytes = next.bytes;
  reads = ReadsOn-join Awaits _ _ _ _ _ _ _ _ _ _ _ _ reads next.reads;
  comes = next.comes;
}

pub came : {S R : Type 0} (state : S → State) (remaining : R → Option (List ℕ)) (desk new_desk : S) (reader mid_reader new_reader : Counted R) (input mid_input new_input : Input) (result : Result Next FaultKind)
    → ReadsAwaited remaining reader mid_reader input mid_input → ComesNext state remaining desk new_desk mid_reader new_reader mid_input new_input result
    → IfOk result (λ next. ComesNext state remaining desk new_desk reader new_reader input new_input (Ok next))
came state remaining desk new_desk reader mid_reader new_reader input mid_input new_input (Ok next) reads comes =
    ComesNext-after state remaining desk new_desk reader mid_reader new_reader input mid_input new_input (Ok next) reads comes
came state remaining desk new_desk reader mid_reader new_reader input mid_input new_input (Err kind) reads comes = tt

-- ---- no request came

stops_by : (kind : FaultKind) (bytes : List ℕ) (turns failures new_failures : ℕ) (writer : ℕ × ℕ) (holds new_holds : Option (List ℕ)) (waiting : List ℕ)
    → Awaits bytes → FailsBy kind turns failures new_failures → Appends holds new_holds waiting
    → StopsBy kind bytes turns (failures, new_failures) writer holds new_holds waiting
stops_by Read bytes turns failures new_failures writer holds new_holds waiting awaits fails appends = (awaits, fails, appends)
stops_by Turns bytes turns failures new_failures writer holds new_holds waiting awaits fails appends = (awaits, fails, appends)
stops_by Write bytes turns failures new_failures writer holds new_holds waiting awaits fails appends = absurd fails
stops_by Memory bytes turns failures new_failures writer holds new_holds waiting awaits fails appends = absurd fails

-- bytes of which more are awaited do not begin with a whole request
not_whole : (bytes more : List ℕ) (kept : Head) → Awaits (bytes ++ more) → HasPart bytes kept → ⊥
not_whole bytes more kept awaits has =
    none_while_awaited (bytes ++ more) awaits has.part (has.rest ++ more) has.is_part
    (ap (λ (v : List ℕ). v ++ more) has.whole ∙ append_assoc (print_part has.part) has.rest more)

-- all that waited was written where more bytes are awaited
all_written : (holds new_holds : Option (List ℕ)) (waiting later bytes more : List ℕ) (kept : Head) (known : Option (List ℕ)) → Sends holds new_holds waiting later
    → (later ≡ []) ⊎ ((society : ℕ) → IsUpcoming society (Request kept) bytes known) → Awaits (bytes ++ more) → Appends holds new_holds waiting
all_written holds new_holds waiting later bytes more kept known sends written awaits =
    elim (written) [
      | inl nil ↦
          Appends-is holds new_holds sends.0 waiting sends.2
          (sym (sends.1 ∙ ap (λ (v : List ℕ). sends.0 ++ v) nil ∙ append-nil sends.0))
      | inr has ↦ absurd (not_whole bytes more kept awaits (has 0))
    ]

pub left_by : {S R W : Type 0} (state : S → State) (remaining : R → Option (List ℕ)) (contents : W → Option (List ℕ)) (desk new_desk : S) (reader mid_reader new_reader : Counted R) (writer new_writer : Counted W) (input mid_input new_input : Input) (waiting later : List ℕ) (kept : Head) (result : Result Next FaultKind)
    → ReadsAwaited remaining reader mid_reader input mid_input → failures_of mid_reader ≡ failures_of reader
    → Sends (contents (inner_of writer)) (contents (inner_of new_writer)) waiting later
    → (later ≡ []) ⊎ ((society : ℕ) → IsUpcoming society (Request kept) (unread mid_input) (remaining (inner_of mid_reader)))
    → ComesNext state remaining desk new_desk mid_reader new_reader mid_input new_input result
    → IfErr result (λ kind. FailsBy kind new_input.turns (failures_of mid_reader) (failures_of new_reader))
    → IfErr result (IsLeft state remaining contents desk new_desk reader new_reader writer new_writer input new_input waiting)
left_by state remaining contents desk new_desk reader mid_reader new_reader writer new_writer input mid_input new_input waiting later kept (Ok next) reads same sends written comes fails = tt
left_by state remaining contents desk new_desk reader mid_reader new_reader writer new_writer input mid_input new_input waiting later kept (Err kind) reads same sends written comes fails =
    let P : List ℕ → Type 0 = λ v. Awaits v in
    let Q : ℕ → Type 0 = λ n. FailsBy kind new_input.turns n (failures_of new_reader) in
    record {
      bytes = comes.bytes;
      reads = ReadsOn-join Awaits _ _ _ _ _ _ _ _ _ _ _ _ reads comes.reads;
      same = comes.comes.1;
      stops =
          stops_by kind comes.bytes new_input.turns (failures_of reader) (failures_of new_reader) (failures_of writer, failures_of new_writer) _ _ waiting comes.comes.0 (subst Q same fails)
          (all_written (contents (inner_of writer)) (contents (inner_of new_writer)) waiting later (unread mid_input) comes.reads.more kept (remaining (inner_of mid_reader)) sends written (subst P comes.reads.grown comes.comes.0));
    }
