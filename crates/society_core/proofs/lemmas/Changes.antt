-- What a step does to the book: it stays as it is, or one entry comes under a free number.
use Rattle.std.proofs.Common.{◌≡◌, ◌+◌, ◌≤◌, ◌<◌, ◌==◌, ◌&&◌, ◌||◌, ◌⊎◌, inl, inr, ⊎_elim, ℕ, Bool, true, false, cond, not, nat_lt, List, Option, Some, None, refl, sym, ap, subst, ◌∙◌, arith}
use Rattle.std.specs.Bool.{⊤}
use Rattle.std.specs.Cmp.{nat_cmp_total}
use Rattle.std.specs.Str.{bytes_eq}
use Rattle.std.proofs.lemmas.Bool.{false≢true}
use Rattle.std.proofs.lemmas.Bool.Decides.{nat_tests}
use Rattle.std.proofs.lemmas.Slice.Eq.{bytes_eq-Decides}
use Rattle.cwr_files.specs.FileFault.{file_fault}
use Rattle.cwr_files.specs.declared.fault.FileFault.{FileFault}
use Rattle.perf_returns.specs.Returns.{return_fault}
use Rattle.perf_returns.specs.declared.fault.ReturnFault.{ReturnFault}
use Rattle.sender_segments.specs.Ways as ways
use Rattle.share_rules.specs.declared.office.Office.{Office}
use Rattle.work_ids.specs.SegmentEnds.{StatedEnd, is_end_out_of_range, is_next_not_later}
use Rattle.work_ids.specs.Segments.{most_in}
use Rattle.work_ids.specs.declared.segment_end.SegmentFault.{SegmentFault}
use Rattle.work_ids.specs.declared.segment_end.SegmentFault.TheVariants.{OutOfRange, NotLater}
use Rattle.society_core.specs.Answers.{added_answer, added_book, answer, close_answer, close_book, close_refusal, closed_answer, closed_book, end_answer, end_book, known_by, next, pool_known_by, put_answer, put_book, return_answer, return_book, stated_answer, stated_book, stating_answer, stating_book, stored_answer, stored_book, taken_answer, taken_book}
use Rattle.society_core.specs.Book.{Book, body_at, end_at, order_at, return_at, with_end, with_pool, with_return, with_transmission}
use Rattle.society_core.specs.Ends.{end_known_by, ended_before, fault_stated, number_past, place_stated, same_end}
use Rattle.society_core.specs.Entries.{Accepts, End, Entry, Transmission, Return, Pool, IsIn, entry_of, is_acceptance}
use Rattle.society_core.specs.Headline.{BringsEntry}
use Rattle.society_core.specs.Keys.{segment_key, transmission_key}
use Rattle.society_core.specs.Orders.{Order, same_order}
use Rattle.society_core.specs.Requests.{Query, Puts, States, StatesFaulty, PutsReturn, Closes, ClosesFaulty, Inquires, AsksElsewhere, Reply, Refused}
use Rattle.society_core.specs.Runs.{Step}
use Rattle.society_core.specs.declared.refusal.Refusal.{Refusal}
use Rattle.society_core.specs.declared.refusal.Refusal.TheVariants.{Unavailable}
use Rattle.society_core.specs.declared.return_key.ReturnKey.{ReturnKey}
use Rattle.society_core.specs.declared.segment_key.SegmentKey.{SegmentKey}
use Rattle.society_core.specs.declared.store.Known.TheVariants.{Same, Other}
use Rattle.society_core.specs.declared.transmission_key.TransmissionKey.{TransmissionKey}
use Rattle.society_core.proofs.lemmas.Inserts.{inserted_from, inserted_keeps, inserted_there}
use Rattle.society_core.proofs.lemmas.KeyOrders.{exact_numbers, exact_returns, exact_segments, exact_transmissions, returns_total, segments_total, transmissions_total}
use Rattle.society_core.proofs.lemmas.SameOrders.{same_order_is}

-- the book with one entry more
abbrev pub with_entry : Book → Entry → Book
with_entry b (Transmission s n x) = with_transmission b s n x
with_entry b (End s g e) = with_end b s g e
with_entry b (Return key x) = with_return b key x
with_entry b (Pool p o) = with_pool b p o

-- nothing stands under an entry's number
abbrev pub IsFree : Book → Entry → Type 0
IsFree b (Transmission s n x) = body_at b s n ≡ None
IsFree b (End s g e) = end_at b s g ≡ None
IsFree b (Return key x) = return_at b key ≡ None
IsFree b (Pool p o) = order_at b p ≡ None

-- an end has a last number within its segment, and leads to a later one
pub record IsPossible (g : ℕ) (e : ways.End) : Type 0 where
  pub last : e.last ≤ most_in g
  pub later : g < e.next

-- nothing in the book refuses an entry
abbrev pub IsUnrefused : Book → Entry → Type 0
IsUnrefused b (Transmission s n x) = ended_before b s n ≡ None
IsUnrefused b (End s g e) = IsPossible g e × (number_past b s g e.last ≡ None)
IsUnrefused b (Return key x) = ⊤
IsUnrefused b (Pool p o) = close_refusal b o ≡ None

pub entry_there : (b : Book) (e : Entry) → IsIn (with_entry b e) e
entry_there b (Transmission s n x) = inserted_there transmissions_total exact_transmissions b.transmissions (transmission_key s n) x
entry_there b (End s g e) = inserted_there segments_total exact_segments b.ends (segment_key s g) e
entry_there b (Return key x) = inserted_there returns_total exact_returns b.returns key x
entry_there b (Pool p o) = inserted_there nat_cmp_total exact_numbers b.pools p o

pub entry_keeps : (b : Book) (e f : Entry) → IsFree b e → IsIn b f → IsIn (with_entry b e) f
entry_keeps b (Transmission s n x) (Transmission t m y) free there = inserted_keeps transmissions_total exact_transmissions b.transmissions (transmission_key s n) x (transmission_key t m) y free there
entry_keeps b (Transmission s n x) (End t h y) free there = there
entry_keeps b (Transmission s n x) (Return key y) free there = there
entry_keeps b (Transmission s n x) (Pool p o) free there = there
entry_keeps b (End s g x) (Transmission t m y) free there = there
entry_keeps b (End s g x) (End t h y) free there = inserted_keeps segments_total exact_segments b.ends (segment_key s g) x (segment_key t h) y free there
entry_keeps b (End s g x) (Return key y) free there = there
entry_keeps b (End s g x) (Pool p o) free there = there
entry_keeps b (Return key x) (Transmission t m y) free there = there
entry_keeps b (Return key x) (End t h y) free there = there
entry_keeps b (Return key x) (Return other y) free there = inserted_keeps returns_total exact_returns b.returns key x other y free there
entry_keeps b (Return key x) (Pool p o) free there = there
entry_keeps b (Pool p o) (Transmission t m y) free there = there
entry_keeps b (Pool p o) (End t h y) free there = there
entry_keeps b (Pool p o) (Return key y) free there = there
entry_keeps b (Pool p o) (Pool q u) free there = inserted_keeps nat_cmp_total exact_numbers b.pools p o q u free there

same_stated : (s t : List ℕ) (g h : ℕ) (x y : ways.End) → segment_key t h ≡ segment_key s g → x ≡ y → End s g x ≡ End t h y
same_stated s t g h x y keys ends =
    ap (λ (k : SegmentKey). End k.sender k.segment x) (sym keys) ∙ ap (λ (z : ways.End). End t h z) ends

same_transmission : (s t : List ℕ) (n m : ℕ) (x y : List ℕ) → transmission_key t m ≡ transmission_key s n → x ≡ y → Transmission s n x ≡ Transmission t m y
same_transmission s t n m x y keys bodies =
    ap (λ (k : TransmissionKey). Transmission k.sender k.number x) (sym keys) ∙ ap (λ (z : List ℕ). Transmission t m z) bodies

pub entry_from : (b : Book) (e f : Entry) → IsIn (with_entry b e) f → (e ≡ f) ⊎ IsIn b f
entry_from b (Transmission s n x) (Transmission t m y) there =
    ⊎_elim
    (λ (now : (transmission_key t m ≡ transmission_key s n) × (x ≡ y)). inl (same_transmission s t n m x y now.0 now.1))
    (λ (before : body_at b t m ≡ Some y). inr before)
    (inserted_from transmissions_total exact_transmissions b.transmissions (transmission_key s n) x (transmission_key t m) y there)
entry_from b (Transmission s n x) (End t h y) there = inr there
entry_from b (End s g x) (Transmission t m y) there = inr there
entry_from b (End s g x) (End t h y) there =
    ⊎_elim
    (λ (now : (segment_key t h ≡ segment_key s g) × (x ≡ y)). inl (same_stated s t g h x y now.0 now.1))
    (λ (before : end_at b t h ≡ Some y). inr before)
    (inserted_from segments_total exact_segments b.ends (segment_key s g) x (segment_key t h) y there)
entry_from b (End s g x) (Return key y) there = inr there
entry_from b (End s g x) (Pool p o) there = inr there
entry_from b (Transmission s n x) (Return key y) there = inr there
entry_from b (Transmission s n x) (Pool p o) there = inr there
entry_from b (Return key x) (Transmission t m y) there = inr there
entry_from b (Return key x) (End t h y) there = inr there
entry_from b (Return key x) (Return other y) there =
    ⊎_elim
    (λ (now : (other ≡ key) × (x ≡ y)). inl (ap (λ (k : ReturnKey). Return k x) (sym now.0) ∙ ap (λ (z : List ℕ). Return other z) now.1))
    (λ (before : return_at b other ≡ Some y). inr before)
    (inserted_from returns_total exact_returns b.returns key x other y there)
entry_from b (Return key x) (Pool p o) there = inr there
entry_from b (Pool p o) (Transmission t m y) there = inr there
entry_from b (Pool p o) (End t h y) there = inr there
entry_from b (Pool p o) (Return key y) there = inr there
entry_from b (Pool p o) (Pool q u) there =
    ⊎_elim
    (λ (now : (q ≡ p) × (o ≡ u)). inl (ap (λ (k : ℕ). Pool k o) (sym now.0) ∙ ap (λ (v : Order). Pool q v) now.1))
    (λ (before : order_at b q ≡ Some u). inr before)
    (inserted_from nat_cmp_total exact_numbers b.pools p o q u there)

-- the book stays, and what was accepted stands in it
pub record Stays (b : Book) (q : Query) (r : Reply) (c : Book) : Type 0 where
  pub same : c ≡ b
  pub known : (e : Entry) → Accepts q r e → IsIn b e

-- one entry comes, which the request brought and which is accepted
pub record Adds (b : Book) (q : Query) (r : Reply) (c : Book) : Type 0 where
  pub entry : Entry
  pub brings : BringsEntry q r entry
  pub accepts : Accepts q r entry
  pub free : IsFree b entry
  pub unrefused : IsUnrefused b entry
  pub next : c ≡ with_entry b entry

not_accepted : (b : Book) (q : Query) (r : Reply) → is_acceptance r ≡ false → Stays b q r b
not_accepted b q r refused = record { same = refl; known = λ e accepts. absurd (false≢true (sym refused ∙ accepts.1)) }

some_apart : {X : Type 0} (x : X) → ◌≡◌ {A = Option X} None (Some x) → ⊥
some_apart x e = cc

asks_nothing : (b : Book) (q : Query) (r : Reply) → entry_of q ≡ None → Stays b q r b
asks_nothing b q r none = record { same = refl; known = λ e accepts. absurd (some_apart e (sym none ∙ accepts.0)) }

-- a repeat is known
repeated : (b : Book) (q : Query) (r : Reply) (e : Entry) → entry_of q ≡ Some e → IsIn b e → Stays b q r b
repeated b q r e is there = record { same = refl; known = λ f accepts. subst (IsIn b) (one e f (sym is ∙ accepts.0)) there }
  where
    one : (x y : Entry) → ◌≡◌ {A = Option Entry} (Some x) (Some y) → x ≡ y
    one x y h = cc

put_changes : (b : Book) (s : List ℕ) (n : ℕ) (y : List ℕ) (o : Option (List ℕ)) → body_at b s n ≡ o → Stays b (Puts s n y) (put_answer b s n y (known_by y o)) (put_book b s n y (known_by y o)) ⊎ Adds b (Puts s n y) (put_answer b s n y (known_by y o)) (put_book b s n y (known_by y o))
put_changes b s n y None free = added (file_fault s y) refl
  where
    taken : file_fault s y ≡ None → (m : Option ℕ) → ended_before b s n ≡ m → Stays b (Puts s n y) (taken_answer b s n y m) (taken_book b s n y m) ⊎ Adds b (Puts s n y) (taken_answer b s n y m) (taken_book b s n y m)
    taken right (Some last) e = inl (not_accepted b (Puts s n y) (taken_answer b s n y (Some last)) refl)
    taken right None e = inr (record { entry = Transmission s n y; brings = (refl, right, λ h. cc); accepts = (refl, refl); free = free; unrefused = e; next = refl })

    added : (f : Option FileFault) → file_fault s y ≡ f → Stays b (Puts s n y) (added_answer b s n y f) (added_book b s n y f) ⊎ Adds b (Puts s n y) (added_answer b s n y f) (added_book b s n y f)
    added (Some fault) e = inl (not_accepted b (Puts s n y) (added_answer b s n y (Some fault)) refl)
    added None e = taken e (ended_before b s n) refl
put_changes b s n y (Some kept) there = known (bytes_eq kept y) refl
  where
    known : (t : Bool) → bytes_eq kept y ≡ t → Stays b (Puts s n y) (put_answer b s n y (cond t Same Other)) (put_book b s n y (cond t Same Other)) ⊎ Adds b (Puts s n y) (put_answer b s n y (cond t Same Other)) (put_book b s n y (cond t Same Other))
    known true e = inl (repeated b (Puts s n y) (put_answer b s n y Same) (Transmission s n y) refl (there ∙ ap (λ (x : List ℕ). Some x) ((bytes_eq-Decides kept y).0 e)))
    known false e = inl (not_accepted b (Puts s n y) (put_answer b s n y Other) refl)

-- a test of two parts that fails, where the first or the second does
neither_is : (a c : Bool) → (a || c) ≡ false → (a ≡ false) × (c ≡ false)
neither_is true c h = absurd (false≢true (sym h))
neither_is false c h = (refl, h)

not_is : (a : Bool) → not a ≡ false → a ≡ true
not_is true h = refl
not_is false h = absurd (false≢true (sym h))

not_less : (a c : ℕ) → nat_lt a c ≡ false → c ≤ a
not_less a c h = grind (arith, nat_tests)

is_less : (a c : ℕ) → nat_lt a c ≡ true → a < c
is_less a c h = grind (arith, nat_tests)

-- what was stated without a fault is possible
pub stated_possible : (stated : StatedEnd) → fault_stated stated ≡ None → IsPossible (place_stated stated) (ways.end_stated stated)
stated_possible stated none = by_range (is_end_out_of_range stated.segment stated.last stated.next) refl none
  where
    apart : (f : SegmentFault) → ◌≡◌ {A = Option SegmentFault} (Some f) None → ⊥
    apart f e = cc

    by_later : (t : Bool) → is_next_not_later stated.segment stated.next ≡ t → cond t (Some NotLater) None ≡ None → nat_lt (place_stated stated) (ways.end_stated stated).next ≡ true
    by_later true is h = absurd (apart NotLater h)
    by_later false is h = not_is (nat_lt (place_stated stated) (ways.end_stated stated).next) is

    by_range : (t : Bool) → is_end_out_of_range stated.segment stated.last stated.next ≡ t → cond t (Some OutOfRange) (cond (is_next_not_later stated.segment stated.next) (Some NotLater) None) ≡ None → IsPossible (place_stated stated) (ways.end_stated stated)
    by_range true is h = absurd (apart OutOfRange h)
    by_range false is h =
        let within = neither_is (nat_lt (most_in (place_stated stated)) stated.last) (nat_lt 99 stated.next) is in
        record {
          last = not_less (most_in (place_stated stated)) stated.last within.0;
          later = is_less (place_stated stated) (ways.end_stated stated).next (by_later (is_next_not_later stated.segment stated.next) refl h);
        }

-- and leads to a year of 00 to 99
pub stated_year : (stated : StatedEnd) → fault_stated stated ≡ None → (ways.end_stated stated).next ≤ 100
stated_year stated none = by_range (is_end_out_of_range stated.segment stated.last stated.next) refl none
  where
    apart : (f : SegmentFault) → ◌≡◌ {A = Option SegmentFault} (Some f) None → ⊥
    apart f e = cc

    by_range : (t : Bool) → is_end_out_of_range stated.segment stated.last stated.next ≡ t → cond t (Some OutOfRange) (cond (is_next_not_later stated.segment stated.next) (Some NotLater) None) ≡ None → stated.next + 1 ≤ 100
    by_range true is h = absurd (apart OutOfRange h)
    by_range false is h =
        let within = not_less 99 stated.next (neither_is (nat_lt (most_in (place_stated stated)) stated.last) (nat_lt 99 stated.next) is).1 in
        omega (arith, within)

-- ends that say the same are one
pub same_end_is : (x y : ways.End) → same_end x y ≡ true → x ≡ y
same_end_is x y h = by_parts (x.last == y.last) refl h
  where
    equal : (a c : ℕ) → (a == c) ≡ true → a ≡ c
    equal a c e = grind (arith, nat_tests)

    by_parts : (t : Bool) → (x.last == y.last) ≡ t → (t && (x.next == y.next)) ≡ true → x ≡ y
    by_parts true is rest =
        ap (λ (k : ℕ). let e : ways.End = record { last = k; next = x.next } in e) (equal x.last y.last is)
        ∙ ap (λ (k : ℕ). let e : ways.End = record { last = y.last; next = k } in e) (equal x.next y.next rest)
    by_parts false is rest = absurd (false≢true rest)

end_changes : (b : Book) (s : List ℕ) (stated : StatedEnd) → fault_stated stated ≡ None → (o : Option ways.End) → end_at b s (place_stated stated) ≡ o →
    Stays b (States s stated) (end_answer b s (place_stated stated) (ways.end_stated stated) (end_known_by (ways.end_stated stated) o)) (end_book b s (place_stated stated) (ways.end_stated stated) (end_known_by (ways.end_stated stated) o))
    ⊎ Adds b (States s stated) (end_answer b s (place_stated stated) (ways.end_stated stated) (end_known_by (ways.end_stated stated) o)) (end_book b s (place_stated stated) (ways.end_stated stated) (end_known_by (ways.end_stated stated) o))
end_changes b s stated right None free = added (number_past b s (place_stated stated) stated.last) refl
  where
    one_query : (t : List ℕ) (other : StatedEnd) → States s stated ≡ States t other → stated ≡ other
    one_query t other e = cc

    added : (m : Option ℕ) → number_past b s (place_stated stated) stated.last ≡ m → Stays b (States s stated) (stated_answer b s (place_stated stated) (ways.end_stated stated) m) (stated_book b s (place_stated stated) (ways.end_stated stated) m) ⊎ Adds b (States s stated) (stated_answer b s (place_stated stated) (ways.end_stated stated) m) (stated_book b s (place_stated stated) (ways.end_stated stated) m)
    added (Some number) e = inl (not_accepted b (States s stated) (stated_answer b s (place_stated stated) (ways.end_stated stated) (Some number)) refl)
    added None e = inr (record {
      entry = End s (place_stated stated) (ways.end_stated stated);
      brings = (refl, λ t other same. ap fault_stated (sym (one_query t other same)) ∙ right, λ h. cc);
      accepts = (refl, refl);
      free = free;
      unrefused = (stated_possible stated right, e);
      next = refl;
    })
end_changes b s stated right (Some kept) there = known (same_end kept (ways.end_stated stated)) refl
  where
    place : ℕ
    place = place_stated stated

    end : ways.End
    end = ways.end_stated stated

    known : (t : Bool) → same_end kept end ≡ t → Stays b (States s stated) (end_answer b s place end (cond t Same Other)) (end_book b s place end (cond t Same Other)) ⊎ Adds b (States s stated) (end_answer b s place end (cond t Same Other)) (end_book b s place end (cond t Same Other))
    known true e = inl (repeated b (States s stated) (end_answer b s place end Same) (End s place end) refl (there ∙ ap (λ (x : ways.End). Some x) (same_end_is kept end e)))
    known false e = inl (not_accepted b (States s stated) (end_answer b s place end Other) refl)

stating_changes : (b : Book) (s : List ℕ) (stated : StatedEnd) (f : Option SegmentFault) → fault_stated stated ≡ f → Stays b (States s stated) (stating_answer b s stated f) (stating_book b s stated f) ⊎ Adds b (States s stated) (stating_answer b s stated f) (stating_book b s stated f)
stating_changes b s stated (Some fault) e = inl (not_accepted b (States s stated) (stating_answer b s stated (Some fault)) refl)
stating_changes b s stated None e = end_changes b s stated e (end_at b s (place_stated stated)) refl

return_changes : (b : Book) (key : ReturnKey) (y : List ℕ) (o : Option (List ℕ)) → return_at b key ≡ o → Stays b (PutsReturn key y) (return_answer y (known_by y o)) (return_book b key y (known_by y o)) ⊎ Adds b (PutsReturn key y) (return_answer y (known_by y o)) (return_book b key y (known_by y o))
return_changes b key y None free = added (return_fault y) refl
  where
    added : (f : Option ReturnFault) → return_fault y ≡ f → Stays b (PutsReturn key y) (stored_answer f) (stored_book b key y f) ⊎ Adds b (PutsReturn key y) (stored_answer f) (stored_book b key y f)
    added (Some fault) e = inl (not_accepted b (PutsReturn key y) (stored_answer (Some fault)) refl)
    added None e = inr (record { entry = Return key y; brings = (refl, e, λ h. cc); accepts = (refl, refl); free = free; unrefused = tt; next = refl })
return_changes b key y (Some kept) there = known (bytes_eq kept y) refl
  where
    known : (t : Bool) → bytes_eq kept y ≡ t → Stays b (PutsReturn key y) (return_answer y (cond t Same Other)) (return_book b key y (cond t Same Other)) ⊎ Adds b (PutsReturn key y) (return_answer y (cond t Same Other)) (return_book b key y (cond t Same Other))
    known true e = inl (repeated b (PutsReturn key y) (return_answer y Same) (Return key y) refl (there ∙ ap (λ (x : List ℕ). Some x) ((bytes_eq-Decides kept y).0 e)))
    known false e = inl (not_accepted b (PutsReturn key y) (return_answer y Other) refl)

close_changes : (b : Book) (p : ℕ) (order : Order) (o : Option Order) → order_at b p ≡ o → Stays b (Closes p order) (close_answer b p order (pool_known_by order o)) (close_book b p order (pool_known_by order o)) ⊎ Adds b (Closes p order) (close_answer b p order (pool_known_by order o)) (close_book b p order (pool_known_by order o))
close_changes b p order None free = added (close_refusal b order) refl
  where
    added : (f : Option Refusal) → close_refusal b order ≡ f → Stays b (Closes p order) (closed_answer p f) (closed_book b p order f) ⊎ Adds b (Closes p order) (closed_answer p f) (closed_book b p order f)
    added (Some refusal) e = inl (not_accepted b (Closes p order) (closed_answer p (Some refusal)) refl)
    added None e = inr (record { entry = Pool p order; brings = (refl, refl); accepts = (refl, refl); free = free; unrefused = e; next = refl })
close_changes b p order (Some kept) there = known (same_order kept order) refl
  where
    known : (t : Bool) → same_order kept order ≡ t → Stays b (Closes p order) (close_answer b p order (cond t Same Other)) (close_book b p order (cond t Same Other)) ⊎ Adds b (Closes p order) (close_answer b p order (cond t Same Other)) (close_book b p order (cond t Same Other))
    known true e = inl (repeated b (Closes p order) (close_answer b p order Same) (Pool p order) refl (there ∙ ap (λ (x : Order). Some x) (same_order_is kept order e)))
    known false e = inl (not_accepted b (Closes p order) (close_answer b p order Other) refl)

next_changes : (o : Office) (b : Book) (q : Query) → Stays b q (answer o b q) (next b q) ⊎ Adds b q (answer o b q) (next b q)
next_changes o b (Puts s n y) = put_changes b s n y (body_at b s n) refl
next_changes o b (States s stated) = stating_changes b s stated (fault_stated stated) refl
next_changes o b (StatesFaulty f) = inl (asks_nothing b (StatesFaulty f) (answer o b (StatesFaulty f)) refl)
next_changes o b (PutsReturn key y) = return_changes b key y (return_at b key) refl
next_changes o b (Closes p order) = close_changes b p order (order_at b p) refl
next_changes o b (ClosesFaulty f) = inl (asks_nothing b (ClosesFaulty f) (answer o b (ClosesFaulty f)) refl)
next_changes o b (Inquires i) = inl (asks_nothing b (Inquires i) (answer o b (Inquires i)) refl)
next_changes o b AsksElsewhere = inl (asks_nothing b AsksElsewhere (answer o b AsksElsewhere) refl)

-- a step leaves the book, or adds one entry
pub step_changes : (o : Office) (b : Book) (q : Query) (r : Reply) (c : Book) → Step o b q r c → Stays b q r c ⊎ Adds b q r c
step_changes o b q r c step =
    ⊎_elim
    (λ (done : (r ≡ answer o b q) × (c ≡ next b q)).
    subst (λ (d : Book). Stays b q r d ⊎ Adds b q r d) (sym done.1)
    (subst (λ (a : Reply). Stays b q a (next b q) ⊎ Adds b q a (next b q)) (sym done.0) (next_changes o b q)))
    (λ (busy : (r ≡ Refused Unavailable) × (c ≡ b)).
    inl
    (subst (λ (d : Book). Stays b q r d) (sym busy.1)
    (subst (λ (a : Reply). Stays b q a b) (sym busy.0) (not_accepted b q (Refused Unavailable) refl))))
    step
