-- Connections come one after another: their requests are one run, and their lines stand behind one another.
use Rattle.std.proofs.Common.{◌≡◌, ℕ, ◌+◌, List, [], ◌∷◌, ◌++◌, Option, Some, None, Result, Ok, Err, arith, ap, append_assoc, append-nil, inl, inr, length, refl, subst, sym, zero, ◌∙◌}
use Rattle.std.specs.Prelude.{IfOk, IfErr, OnOk}
use Rattle.std.specs.Io.KnownBytes.{Appends}
use Rattle.std.specs.List.{AllByRecursion}
use Rattle.std.proofs.lemmas.List.{length-append}
use Rattle.std.proofs.lemmas.Grind.{flat_map-append}
use Rattle.http_desk.specs.Counted.{failures_of, inner_of}
use Rattle.http_text.specs.Part.{Part}
use Rattle.http_desk.specs.Serves.{AreAnswered, IsGivenUp, IsServed, KeepsTurns, NeitherFails}
use Rattle.http_desk.specs.declared.connection.Served.{Served}
use Rattle.http_desk.specs.declared.counted.Counted.{Counted}
use Rattle.http_desk.specs.declared.fault.DeskFault.{DeskFault}
use Rattle.http_desk.proofs.lemmas.AnsweredLemmas.{answered_on, none_answered}
use Rattle.society_core.specs.Requests.{Reply}
use Rattle.society_core.specs.State.{Rises, State}
use Rattle.desk_connections.specs.Connections.{IsCounted, IsGivenUpSo, IsServedSo, Prints, ServesConnections, ServesEach, ServesNext, ServesOne, connection_line, connection_lines, parts_brought, replies_given, requests_of}
use Rattle.desk_connections.specs.Doors.{Admits, ComeInOrder, Connection, Ways}
use Rattle.desk_connections.specs.Faults.{most_turns}

-- ---- what is printed

rises_on : (a b c : ℕ) → Rises a b → (Rises b c) → Rises a c
rises_on a b c (inl less) (inl more) = inl (omega (arith, less, more))
rises_on a b c (inl less) (inr (most, same)) = inl (omega (arith, less, same))
rises_on a b c (inr (most, same)) (inl more) = inl (omega (arith, same, more))
rises_on a b c (inr (most, same)) (inr (top, kept)) = inr (most, kept ∙ same)

rises_kept : (a b c : ℕ) → Rises a b → c ≡ b → Rises a c
rises_kept a b c rises same = subst (λ (n : ℕ). Rises a n) (sym same) rises

rises_after : (a b c : ℕ) → b ≡ a → Rises b c → Rises a c
rises_after a b c same rises = subst (λ (n : ℕ). Rises n c) same rises

appends_on : (a b c : Option (List ℕ)) (xs ys : List ℕ) → Appends a b xs → Appends b c ys → Appends a c (xs ++ ys)
appends_on None b c xs ys first then = tt
appends_on (Some zs) None c xs ys first then = absurd first
appends_on (Some zs) (Some ws) None xs ys first then = absurd then
appends_on (Some zs) (Some ws) (Some vs) xs ys first then = then ∙ ap (λ (l : List ℕ). l ++ ys) first ∙ append_assoc zs xs ys

pub appends_nothing : (a : Option (List ℕ)) → Appends a a []
appends_nothing None = tt
appends_nothing (Some zs) = sym (append-nil zs)

module _ {W : Type 0} (contents : W → Option (List ℕ)) where
  pub prints_on : (a b c : Counted W) (xs ys : List ℕ) → Prints contents a b xs → Prints contents b c ys → Prints contents a c (xs ++ ys)
  prints_on a b c xs ys (inl failed) (inl again) = inl (rises_on (failures_of a) (failures_of b) (failures_of c) failed again)
  prints_on a b c xs ys (inl failed) (inr (same, more)) = inl (rises_kept (failures_of a) (failures_of b) (failures_of c) failed same)
  prints_on a b c xs ys (inr (same, more)) (inl failed) = inl (rises_after (failures_of a) (failures_of b) (failures_of c) same failed)
  prints_on a b c xs ys (inr (same, more)) (inr (kept, most)) =
      inr (kept ∙ same, appends_on (contents (inner_of a)) (contents (inner_of b)) (contents (inner_of c)) xs ys more most)

-- ---- connections

module _ {D R V : Type 0} (ways : Ways D R V) where
  lines_more : (number : ℕ) (cs : List (Connection R V)) (c : Connection R V)
      → connection_lines number (cs ++ c ∷ []) ≡ connection_lines number cs ++ connection_line (number + length cs) c.outcome
  lines_more number [] c =
      append-nil (connection_line number c.outcome) ∙ ap (λ (n : ℕ). connection_line n c.outcome) (let e : number ≡ number + zero = omega arith in e)
  lines_more number (d ∷ cs) c =
      ap (λ (l : List ℕ). connection_line number d.outcome ++ l)
      (lines_more (number + 1) cs c ∙ ap (λ (n : ℕ). connection_lines (number + 1) cs ++ connection_line n c.outcome) (let e : number + 1 + length cs ≡ number + length (d ∷ cs) = omega arith in e))
      ∙ sym (append_assoc (connection_line number d.outcome) (connection_lines (number + 1) cs) (connection_line (number + length (d ∷ cs)) c.outcome))

  counted_more : (cs : List (Connection R V)) (c : Connection R V) → AllByRecursion IsCounted cs → IsCounted c → AllByRecursion IsCounted (cs ++ c ∷ [])
  counted_more [] c all is = (is, tt)
  counted_more (d ∷ cs) c all is = (all.0, counted_more cs c all.1 is)

  parts_more : (cs : List (Connection R V)) (c : Connection R V) → parts_brought (cs ++ c ∷ []) ≡ parts_brought cs ++ c.parts
  parts_more cs c = flat_map-append (λ (d : Connection R V). d.parts) cs (c ∷ []) ∙ ap (λ (v : List Part). parts_brought cs ++ v) (append-nil c.parts)

  replies_more : (cs : List (Connection R V)) (c : Connection R V) → replies_given (cs ++ c ∷ []) ≡ replies_given cs ++ c.replies
  replies_more cs c = flat_map-append (λ (d : Connection R V). d.replies) cs (c ∷ []) ∙ ap (λ (v : List Reply). replies_given cs ++ v) (append-nil c.replies)

  numbered_more : (number : ℕ) (cs : List (Connection R V)) (c : Connection R V) → ComeInOrder ways number cs
      → ways.doors.sent_by c.sent ≡ number + length cs → ways.doors.given_to c.given ≡ number + length cs → ComeInOrder ways number (cs ++ c ∷ [])
  numbered_more number [] c all sent given = (omega (arith, sent), omega (arith, given), tt)
  numbered_more number (d ∷ cs) c all sent given = (all.0, all.1, numbered_more (number + 1) cs c all.2 (omega (arith, sent)) (omega (arith, given)))

  each_more : {S : Type 0} (state : S → State) (cs : List (Connection R V)) (c : Connection R V) (old mid new : S) (door last new_door : D)
      → ServesEach ways state cs old mid door last → ServesOne ways state mid new last new_door c → ServesEach ways state (cs ++ c ∷ []) old new door new_door
  each_more {S} state [] c old mid new door last new_door same one =
      (new, new_door, subst (λ (d : S). ServesOne ways state d new door new_door c) same.0 (subst (λ (d : D). ServesOne ways state mid new d new_door c) same.1 one), (refl, refl))
  each_more state (d ∷ cs) c old mid new door last new_door each one =
      (each.0, each.1, each.2, each_more state cs c each.0 mid new each.1 last new_door each.3 one)

  -- one more connection came
  pub serves_more : {S W : Type 0} (state : S → State) (old mid new : S) (contents : W → Option (List ℕ)) (first out new_out : Counted W) (begun door new_door : D) (count : ℕ) (outcome : Result Served DeskFault)
      → ServesConnections ways state old mid contents first out begun door count → ways.doors.accepted door ≡ ways.doors.accepted begun + count → ServesNext ways state mid new door new_door outcome → Prints contents out new_out (connection_line (count + 1) outcome)
      → ServesConnections ways state old new contents first new_out begun new_door (count + 1)
  serves_more state old mid new contents first out new_out begun door new_door count outcome so came next printed =
      let c = next.0 in
      let one = next.2 in
      let cs = so.connections in
      let number : 1 + length cs ≡ count + 1 = omega (arith, so.number) in
      record {
        connections = cs ++ c ∷ [];
        number = omega (arith, length-append cs (c ∷ []), so.number);
        numbered = numbered_more (ways.doors.accepted begun + 1) cs c so.numbered (omega (arith, next.4, came, so.number)) (omega (arith, next.5, came, so.number));
        each = each_more state cs c old mid new begun door new_door so.each one;
        counted = counted_more cs c so.counted one.count;
        answers =
            subst (λ (ps : List Part). AreAnswered state ps (replies_given (cs ++ c ∷ [])) old new) (sym (parts_more cs c))
            (subst (λ (rs : List Reply). AreAnswered state (parts_brought cs ++ c.parts) rs old new) (sym (replies_more cs c))
            (answered_on state (parts_brought cs) c.parts (replies_given cs) c.replies old mid new so.answers one.answers));
        printed =
            subst (λ (l : List ℕ). Prints contents first new_out l)
            (sym (lines_more 1 cs c ∙ ap (λ (n : ℕ). connection_lines 1 cs ++ connection_line n c.outcome) number))
            (prints_on contents first out new_out (connection_lines 1 cs) (connection_line (count + 1) c.outcome) so.printed
            (subst (λ (o : Result Served DeskFault). Prints contents out new_out (connection_line (count + 1) o)) (sym next.1) printed));
      }

  -- none came yet
  pub serves_none : {S W : Type 0} (state : S → State) (desk : S) (contents : W → Option (List ℕ)) (out : Counted W) (door : D) → ServesConnections ways state desk desk contents out out door door 0
  serves_none state desk contents out door = record {
    connections = [];
    number = refl;
    numbered = tt;
    each = (refl, refl);
    counted = tt;
    answers = none_answered state desk;
    printed = inr (refl, appends_nothing (contents (inner_of out)));
  }

  -- what is known of a connection is that it was served from its two ways, between a door that let it in and one that took them back
  module _ {S : Type 0} (state : S → State) (desk new_desk : S) (door open_door new_door : D) (reader new_reader : Counted R) (writer new_writer : Counted V) where
    one_served : (c : Connection R V) → Admits ways door c.sent c.given open_door → ways.doors.patience new_door ≡ ways.doors.patience door → ways.doors.parts open_door (inner_of new_reader) (inner_of new_writer) new_door
        → (inner_of reader ≡ c.sent) × (inner_of writer ≡ c.given)
        → IfOk c.outcome (IsServedSo ways state desk new_desk reader writer new_writer c) → IfErr c.outcome (IsGivenUpSo ways state desk new_desk reader new_reader writer new_writer c)
        → OnOk c.outcome (NeitherFails reader new_reader writer new_writer) → KeepsTurns ways.sent reader new_reader most_turns
        → requests_of c.outcome ≡ length c.parts → AreAnswered state c.parts c.replies desk new_desk → ServesOne ways state desk new_desk door new_door c
    one_served c admitted waits parted begins served given_up kept turns count answers = record {
      open_door = open_door;
      admitted = admitted;
      waits = waits;
      parted = parted;
      reader = reader;
      new_reader = new_reader;
      writer = writer;
      new_writer = new_writer;
      begins = begins;
      served = served;
      given_up = given_up;
      kept = kept;
      turns = turns;
      count = count;
      answers = answers;
    }

    -- a connection that was served from its ways, or given up, is one with the requests of which that is told
    pub serves_one : (sent : R) (given : V) (outcome : Result Served DeskFault) → Admits ways door sent given open_door → ways.doors.patience new_door ≡ ways.doors.patience door
        → ways.doors.parts open_door (inner_of new_reader) (inner_of new_writer) new_door → inner_of reader ≡ sent → inner_of writer ≡ given
        → IfOk outcome (IsServed state ways.sent ways.given desk new_desk reader writer new_writer)
        → IfErr outcome (IsGivenUp state ways.sent ways.given desk new_desk reader new_reader writer new_writer most_turns)
        → OnOk outcome (NeitherFails reader new_reader writer new_writer) → KeepsTurns ways.sent reader new_reader most_turns
        → (c : Connection R V) × (c.outcome ≡ outcome) × (c.sent ≡ sent) × (c.given ≡ given) × ServesOne ways state desk new_desk door new_door c
    serves_one sent given (Ok served) admitted waits parted reads writes is none kept turns =
        let c : Connection R V = record { sent = sent; given = given; parts = is.parts; replies = is.replies; outcome = Ok served } in
        (c, refl, refl, refl, one_served c admitted waits parted (reads, writes) (is, refl, refl) tt kept turns is.count is.answers)
    serves_one sent given (Err fault) admitted waits parted reads writes none is kept turns =
        let c : Connection R V = record { sent = sent; given = given; parts = is.breaks.parts; replies = is.breaks.replies; outcome = Err fault } in
        (c, refl, refl, refl, one_served c admitted waits parted (reads, writes) tt (is, refl, refl) kept turns is.breaks.count is.breaks.answers)
