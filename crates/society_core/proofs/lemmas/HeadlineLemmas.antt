-- The book after a run holds what was accepted and what came, and no order of arrival makes a difference.
use Rattle.std.proofs.Common.{IsTrue, map, ◌≡◌, ◌≤◌, ◌<◌, ◌==◌, ◌&&◌, ℕ, Bool, true, false, cond, nat_lt, filter, is_some, List, [], ◌∷◌, ◌⊎◌, inl, inr, ⊎_elim, Option, Some, None, refl, sym, ap, subst, ◌∙◌, arith}
use Rattle.std.specs.Bool.{⊤}
use Rattle.std.specs.Ordering.{nat_cmp}
use Rattle.std.specs.Cmp.{nat_cmp_total}
use Rattle.std.specs.FinMap as finite
use Rattle.std.specs.Str.{bytes_eq}
use Rattle.std.proofs.lemmas.Bool.{false≢true}
use Rattle.std.proofs.lemmas.Bool.Decides.{nat_tests}
use Rattle.std.proofs.lemmas.List.{append_cancel_left}
use Rattle.cwr_files.specs.FileFault.{file_fault}
use Rattle.cwr_files.specs.declared.fault.FileFault.{FileFault}
use Rattle.perf_returns.specs.Returns.{return_fault}
use Rattle.perf_returns.specs.declared.fault.ReturnFault.{ReturnFault}
use Rattle.sender_segments.specs.Ways as ways
use Rattle.sender_segments.specs.Ways.{IsWithinEnd}
use Rattle.share_rules.specs.declared.office.Office.{Office}
use Rattle.work_ids.specs.Segments.{most_in, segment_of, sequence_of}
use Rattle.work_ids.specs.declared.segment_end.SegmentFault.{SegmentFault}
use Rattle.society_core.specs.Answers.{added_book, answer, end_book, known_by, next, put_book, return_book, stated_book, stating_book, stored_book, taken_book}
use Rattle.society_core.specs.Book.{Book, Ends, body_at, end_at, ends_of, is_one_of, is_there, numbers_of, order_at, return_at}
use Rattle.society_core.specs.Ends.{end_known_by, is_past, last_below, last_number_of, number_past, place_stated, same_end}
use Rattle.society_core.specs.Entries.{Accepts, BookOf, End, Entry, Transmission, Return, Pool, HoldsExactly, IsAccepted, IsIn, entry_of}
use Rattle.society_core.specs.Headline.{AcceptedAlike, BringsEntry, BroughtAlike, Came, HasNoEndFault, HoldsWhatCame, IsBrought, OneContent, TellsWhatCame}
use Rattle.society_core.specs.Keys.{return_cmp, transmission_cmp}
use Rattle.society_core.specs.Laws.{UnstatedIsOneContent}
use Rattle.society_core.specs.Orders.{Order}
use Rattle.society_core.specs.Requests.{Query, Puts, States, StatesFaulty, PutsReturn, Closes, ClosesFaulty, Inquires, AsksElsewhere, Reply, Refused, query_of, reply_of}
use Rattle.society_core.specs.Runs.{Step, Run, AppendsRun}
use Rattle.society_core.specs.declared.answers.Answer.{Answer}
use Rattle.society_core.specs.declared.refusal.Refusal.TheVariants.{Unavailable}
use Rattle.society_core.specs.declared.request.Request.{Request}
use Rattle.society_core.specs.declared.return_key.ReturnKey.{ReturnKey}
use Rattle.society_core.specs.declared.segment_key.SegmentKey.{SegmentKey}
use Rattle.society_core.specs.declared.store.Known.TheVariants.{Same, Other}
use Rattle.society_core.specs.declared.transmission_key.TransmissionKey.{TransmissionKey}
use Rattle.society_core.proofs.lemmas.Books.{AreFitting, some_body}
use Rattle.society_core.proofs.lemmas.Changes.{Adds, IsFree, IsUnrefused, Stays, entry_from, entry_keeps, entry_there, step_changes, with_entry}
use Rattle.society_core.proofs.lemmas.NumbersThere.{there_of_numbers}
use Rattle.society_core.proofs.lemmas.KeyOrders.{exact_numbers, exact_returns, exact_segments, exact_transmissions, returns_total, segments_total, transmissions_total}
use Rattle.society_core.proofs.lemmas.LineNumbers.{is_first, is_later, one_that_passes}

-- a step keeps what is there
pub step_keeps : (o : Office) (b : Book) (q : Query) (r : Reply) (c : Book) → Step o b q r c → (e : Entry) → IsIn b e → IsIn c e
step_keeps o b q r c step e there =
    ⊎_elim
    (λ (stays : Stays b q r c). subst (λ (d : Book). IsIn d e) (sym stays.same) there)
    (λ (adds : Adds b q r c). subst (λ (d : Book). IsIn d e) (sym adds.next) (entry_keeps b adds.entry e adds.free there))
    (step_changes o b q r c step)

-- what is there after a step was there, or was brought and accepted
step_from : (o : Office) (b : Book) (q : Query) (r : Reply) (c : Book) → Step o b q r c → (e : Entry) → IsIn c e → IsIn b e ⊎ (BringsEntry q r e × Accepts q r e)
step_from o b q r c step e there =
    ⊎_elim
    (λ (stays : Stays b q r c). inl (subst (λ (d : Book). IsIn d e) stays.same there))
    (λ (adds : Adds b q r c).
    ⊎_elim
    (λ (now : adds.entry ≡ e). inr (subst (λ (f : Entry). BringsEntry q r f × Accepts q r f) now (adds.brings, adds.accepts)))
    (λ (before : IsIn b e). inl before)
    (entry_from b adds.entry e (subst (λ (d : Book). IsIn d e) adds.next there)))
    (step_changes o b q r c step)

-- what was accepted is there
pub step_there : (o : Office) (b : Book) (q : Query) (r : Reply) (c : Book) → Step o b q r c → (e : Entry) → Accepts q r e → IsIn c e
step_there o b q r c step e accepts =
    ⊎_elim
    (λ (stays : Stays b q r c). subst (λ (d : Book). IsIn d e) (sym stays.same) (stays.known e accepts))
    (λ (adds : Adds b q r c).
    subst (λ (d : Book). IsIn d e) (sym adds.next) (subst (λ (f : Entry). IsIn (with_entry b adds.entry) f) (one adds.entry e (sym adds.accepts.0 ∙ accepts.0)) (entry_there b adds.entry)))
    (step_changes o b q r c step)
  where
    one : (x y : Entry) → ◌≡◌ {A = Option Entry} (Some x) (Some y) → x ≡ y
    one x y h = cc

-- a run keeps what is there
pub run_keeps : (o : Office) (b : Book) (qs : List Query) (rs : List Reply) (c : Book) → Run o b qs rs c → (e : Entry) → IsIn b e → IsIn c e
run_keeps o b [] [] c run e there = subst (λ (d : Book). IsIn d e) (sym run) there
run_keeps o b (q ∷ qs) (r ∷ rs) c run e there = run_keeps o run.0 qs rs c run.2 e (step_keeps o b q r run.0 run.1 e there)
run_keeps o b [] (r ∷ rs) c run e there = absurd run
run_keeps o b (q ∷ qs) [] c run e there = absurd run

-- what is there after a run was there, or was accepted
run_from : (o : Office) (b : Book) (qs : List Query) (rs : List Reply) (c : Book) → Run o b qs rs c → (e : Entry) → IsIn c e → BookOf b qs rs e
run_from o b [] [] c run e there = inl (subst (λ (d : Book). IsIn d e) run there)
run_from o b (q ∷ qs) (r ∷ rs) c run e there =
    ⊎_elim
    (λ (before : IsIn run.0 e).
    ⊎_elim
    (λ (first : IsIn b e). inl first)
    (λ (came : BringsEntry q r e × Accepts q r e). inr (inl came.1))
    (step_from o b q r run.0 run.1 e before))
    (λ (later : IsAccepted qs rs e). inr (inr later))
    (run_from o run.0 qs rs c run.2 e there)
run_from o b [] (r ∷ rs) c run e there = absurd run
run_from o b (q ∷ qs) [] c run e there = absurd run

-- what was accepted is there after a run
run_there : (o : Office) (b : Book) (qs : List Query) (rs : List Reply) (c : Book) → Run o b qs rs c → (e : Entry) → IsAccepted qs rs e → IsIn c e
run_there o b [] rs c run e accepted = absurd accepted
run_there o b (q ∷ qs) (r ∷ rs) c run e accepted =
    ⊎_elim
    (λ (now : Accepts q r e). run_keeps o run.0 qs rs c run.2 e (step_there o b q r run.0 run.1 e now))
    (λ (later : IsAccepted qs rs e). run_there o run.0 qs rs c run.2 e later)
    accepted
run_there o b (q ∷ qs) [] c run e accepted = absurd run

-- the book after a run is the opening book and what was accepted
pub holds_what_was_accepted : (o : Office) (b : Book) (qs : List Query) (rs : List Reply) (c : Book) → Run o b qs rs c → HoldsExactly c (BookOf b qs rs)
holds_what_was_accepted o b qs rs c run e = (
  run_from o b qs rs c run e,
  ⊎_elim (λ (first : IsIn b e). run_keeps o b qs rs c run e first) (λ (accepted : IsAccepted qs rs e). run_there o b qs rs c run e accepted),
)

-- what is there after a run came
pub run_came : (o : Office) (b : Book) (qs : List Query) (rs : List Reply) (c : Book) → Run o b qs rs c → (e : Entry) → IsIn c e → Came b qs rs e
run_came o b [] [] c run e there = inl (subst (λ (d : Book). IsIn d e) run there)
run_came o b (q ∷ qs) (r ∷ rs) c run e there =
    ⊎_elim
    (λ (before : IsIn run.0 e).
    ⊎_elim
    (λ (first : IsIn b e). inl first)
    (λ (came : BringsEntry q r e × Accepts q r e). inr (inl came.0))
    (step_from o b q r run.0 run.1 e before))
    (λ (later : IsBrought qs rs e). inr (inr later))
    (run_came o run.0 qs rs c run.2 e there)
run_came o b [] (r ∷ rs) c run e there = absurd run
run_came o b (q ∷ qs) [] c run e there = absurd run

-- a book has no end before a number, nor a number above an end
abbrev pub Fits : Book → Entry → Type 0
Fits b (Transmission s n x) = (e : ways.End) → end_at b s (segment_of n) ≡ Some e → sequence_of n ≤ e.last
Fits b (End s g e) = (n : ℕ) (x : List ℕ) → body_at b s n ≡ Some x → segment_of n ≡ g → sequence_of n ≤ e.last
Fits b (Return key x) = ⊤
Fits b (Pool p o) = ⊤

-- so it is in each book that has no more
fits_before : (b c : Book) → ((e : Entry) → IsIn b e → IsIn c e) → (e : Entry) → Fits c e → Fits b e
fits_before b c keeps (Transmission s n x) fits = λ e stated. fits e (keeps (End s (segment_of n) e) stated)
fits_before b c keeps (End s g e) fits = λ n x there same. fits n x (keeps (Transmission s n x) there) same
fits_before b c keeps (Return key x) fits = tt
fits_before b c keeps (Pool p o) fits = tt

-- a number that fits is not above the end of its segment
pub not_ended : (sequence : ℕ) (o : Option ways.End) → ((e : ways.End) → o ≡ Some e → sequence ≤ e.last) → last_below sequence o ≡ None
not_ended sequence None fits = refl
not_ended sequence (Some e) fits = ap (λ (t : Bool). cond t (Some e.last) None) (above e.last sequence (fits e refl))
  where
    above : (last k : ℕ) → k ≤ last → nat_lt last k ≡ false
    above last k h = grind (arith, nat_tests)

-- and the other way round
pub is_not_ended : (sequence : ℕ) (o : Option ways.End) → last_below sequence o ≡ None → (e : ways.End) → o ≡ Some e → sequence ≤ e.last
is_not_ended sequence None none e is = absurd (apart is)
  where
    apart : ◌≡◌ {A = Option ways.End} None (Some e) → ⊥
    apart is = cc
is_not_ended sequence (Some x) none e is =
    subst (λ (y : ways.End). sequence ≤ y.last) (one x e is) (by_case (nat_lt x.last sequence) refl none)
  where
    one : (y z : ways.End) → ◌≡◌ {A = Option ways.End} (Some y) (Some z) → y ≡ z
    one y z h = cc

    apart : (k : ℕ) → ◌≡◌ {A = Option ℕ} (Some k) None → ⊥
    apart k h = cc

    within : (a k : ℕ) → nat_lt a k ≡ false → k ≤ a
    within a k h = grind (arith, nat_tests)

    by_case : (t : Bool) → nat_lt x.last sequence ≡ t → cond t (Some x.last) None ≡ None → sequence ≤ x.last
    by_case true is h = absurd (apart x.last h)
    by_case false is h = within x.last sequence is

put_there : (b : Book) (s : List ℕ) (n : ℕ) (y : List ℕ) (o : Option (List ℕ)) → body_at b s n ≡ o → file_fault s y ≡ None → Fits b (Transmission s n y) → (z : List ℕ) × IsIn (put_book b s n y (known_by y o)) (Transmission s n z)
put_there b s n y None free right fits = (
  y,
  subst (λ (f : Option FileFault). IsIn (added_book b s n y f) (Transmission s n y)) (sym right)
      (subst (λ (m : Option ℕ). IsIn (taken_book b s n y m) (Transmission s n y)) (sym (not_ended (sequence_of n) (end_at b s (segment_of n)) fits)) (entry_there b (Transmission s n y))),
)
put_there b s n y (Some kept) there right fits = (kept, stays (bytes_eq kept y))
  where
    stays : (t : Bool) → IsIn (put_book b s n y (cond t Same Other)) (Transmission s n kept)
    stays true = there
    stays false = there

-- where none of some numbers passes, the last that does is none
none_last : (passes : ℕ → Bool) (ns : List ℕ) → ((n : ℕ) → is_one_of ns n ≡ true → passes n ≡ false) → last_number_of (filter passes ns) ≡ None
none_last passes [] none = refl
none_last passes (n ∷ ns) none =
    ap (λ (t : Bool). last_number_of (cond t (n ∷ filter passes ns) (filter passes ns))) (none n (is_first n ns))
    ∙ none_last passes ns (λ k one. none k (is_later n k ns one))

-- an end that fits is above all numbers of its segment
pub none_past : (b : Book) (s : List ℕ) (g : ℕ) (e : ways.End) → Fits b (End s g e) → number_past b s g e.last ≡ None
none_past b s g e fits = none_last (is_past g e.last) (numbers_of b s) (λ n one. by_found n (body_at b s n) refl (sym (there_of_numbers b s n) ∙ one))
  where
    not_past : (n : ℕ) → (segment_of n ≡ g → sequence_of n ≤ e.last) → is_past g e.last n ≡ false
    not_past n h = by_segment (segment_of n == g) refl
      where
        above : (last k : ℕ) → k ≤ last → nat_lt last k ≡ false
        above last k h = grind (arith, nat_tests)

        equal : (a c : ℕ) → (a == c) ≡ true → a ≡ c
        equal a c h = grind (arith, nat_tests)

        by_segment : (t : Bool) → (segment_of n == g) ≡ t → (t && nat_lt e.last (sequence_of n)) ≡ false
        by_segment true is = above e.last (sequence_of n) (h (equal (segment_of n) g is))
        by_segment false is = refl

    by_found : (n : ℕ) (o : Option (List ℕ)) → body_at b s n ≡ o → is_some (body_at b s n) ≡ true → is_past g e.last n ≡ false
    by_found n None is there = absurd (false≢true (sym (ap is_some is) ∙ there))
    by_found n (Some x) is there = not_past n (fits n x is)

end_there : (b : Book) (s : List ℕ) (g : ℕ) (e : ways.End) (o : Option ways.End) → end_at b s g ≡ o → Fits b (End s g e) → (z : ways.End) × IsIn (end_book b s g e (end_known_by e o)) (End s g z)
end_there b s g e None free fits =
    (e, subst (λ (m : Option ℕ). IsIn (stated_book b s g e m) (End s g e)) (sym (none_past b s g e fits)) (entry_there b (End s g e)))
end_there b s g e (Some kept) there fits = (kept, stays (same_end kept e))
  where
    stays : (t : Bool) → IsIn (end_book b s g e (cond t Same Other)) (End s g kept)
    stays true = there
    stays false = there

return_there : (b : Book) (key : ReturnKey) (y : List ℕ) (o : Option (List ℕ)) → return_at b key ≡ o → return_fault y ≡ None → (z : List ℕ) × IsIn (return_book b key y (known_by y o)) (Return key z)
return_there b key y None free right =
    (y, subst (λ (f : Option ReturnFault). IsIn (stored_book b key y f) (Return key y)) (sym right) (entry_there b (Return key y)))
return_there b key y (Some kept) there right = (kept, stays (bytes_eq kept y))
  where
    stays : (t : Bool) → IsIn (return_book b key y (cond t Same Other)) (Return key kept)
    stays true = there
    stays false = there

-- what stands under the number of an entry, if anything does
abbrev Something : Book → Entry → Type 0
Something b (Transmission s n x) = (z : List ℕ) × (body_at b s n ≡ Some z)
Something b (End s g e) = (z : ways.End) × (end_at b s g ≡ Some z)
Something b (Return key x) = (z : List ℕ) × (return_at b key ≡ Some z)
Something b (Pool p o) = order_at b p ≡ Some o

still_something : (b c : Book) → ((e : Entry) → IsIn b e → IsIn c e) → (e : Entry) → Something b e → Something c e
still_something b c keeps (Transmission s n x) is = (is.0, keeps (Transmission s n is.0) is.1)
still_something b c keeps (End s g e) is = (is.0, keeps (End s g is.0) is.1)
still_something b c keeps (Return key x) is = (is.0, keeps (Return key is.0) is.1)
still_something b c keeps (Pool p o) is = keeps (Pool p o) is

some_entry : (x : Entry) → ◌≡◌ {A = Option Entry} None (Some x) → ⊥
some_entry x e = cc

-- what is known of a transmission's entry
abbrev parts_of : Entry → List ℕ × (ℕ × List ℕ)
parts_of (Transmission s n x) = (s, (n, x))
parts_of (End s g e) = ([], (0, []))
parts_of (Return key x) = ([], (0, []))
parts_of (Pool p o) = ([], (0, []))

one_entry : (x y : Entry) → ◌≡◌ {A = Option Entry} (Some x) (Some y) → x ≡ y
one_entry x y e = cc

-- the book after a put of a transmission
next_put : (b : Book) (q : Query) (s : List ℕ) (n : ℕ) (x : List ℕ) → entry_of q ≡ Some (Transmission s n x) → next b q ≡ put_book b s n x (known_by x (body_at b s n))
next_put b (Puts t m y) s n x e =
    ap (λ (f : Entry). let p = parts_of f in put_book b p.0 p.1.0 p.1.1 (known_by p.1.1 (body_at b p.0 p.1.0))) (one_entry (Transmission t m y) (Transmission s n x) e)
next_put b (States t stated) s n x e = absurd (apart (one_entry (End t (place_stated stated) (ways.end_stated stated)) (Transmission s n x) e))
  where
    apart : End t (place_stated stated) (ways.end_stated stated) ≡ Transmission s n x → ⊥
    apart h = cc
next_put b (StatesFaulty f) s n x e = absurd (some_entry (Transmission s n x) e)
next_put b (PutsReturn key y) s n x e = absurd (apart (one_entry (Return key y) (Transmission s n x) e))
  where
    apart : Return key y ≡ Transmission s n x → ⊥
    apart h = cc
next_put b (Closes p o) s n x e = absurd (apart (one_entry (Pool p o) (Transmission s n x) e))
  where
    apart : Pool p o ≡ Transmission s n x → ⊥
    apart h = cc
next_put b (ClosesFaulty f) s n x e = absurd (some_entry (Transmission s n x) e)
next_put b (Inquires i) s n x e = absurd (some_entry (Transmission s n x) e)
next_put b AsksElsewhere s n x e = absurd (some_entry (Transmission s n x) e)

-- what is known of a return's entry
abbrev named_of : ReturnKey → Entry → ReturnKey × List ℕ
named_of key (Return other x) = (other, x)
named_of key (End s g e) = (key, [])
named_of key (Transmission s n x) = (key, [])
named_of key (Pool p o) = (key, [])

-- the book after a put of a return
next_return : (b : Book) (q : Query) (key : ReturnKey) (x : List ℕ) → entry_of q ≡ Some (Return key x) → next b q ≡ return_book b key x (known_by x (return_at b key))
next_return b (PutsReturn other y) key x e =
    ap (λ (f : Entry). let p = named_of key f in return_book b p.0 p.1 (known_by p.1 (return_at b p.0))) (one_entry (Return other y) (Return key x) e)
next_return b (Puts t m y) key x e = absurd (apart (one_entry (Transmission t m y) (Return key x) e))
  where
    apart : Transmission t m y ≡ Return key x → ⊥
    apart h = cc
next_return b (States t stated) key x e = absurd (apart (one_entry (End t (place_stated stated) (ways.end_stated stated)) (Return key x) e))
  where
    apart : End t (place_stated stated) (ways.end_stated stated) ≡ Return key x → ⊥
    apart h = cc
next_return b (StatesFaulty f) key x e = absurd (some_entry (Return key x) e)
next_return b (Closes p o) key x e = absurd (apart (one_entry (Pool p o) (Return key x) e))
  where
    apart : Pool p o ≡ Return key x → ⊥
    apart h = cc
next_return b (ClosesFaulty f) key x e = absurd (some_entry (Return key x) e)
next_return b (Inquires i) key x e = absurd (some_entry (Return key x) e)
next_return b AsksElsewhere key x e = absurd (some_entry (Return key x) e)

-- what is known of an end's entry
abbrev ended_of : Entry → List ℕ × (ℕ × ways.End)
ended_of (End s g e) = (s, (g, e))
ended_of (Transmission s n x) = ([], (0, record { last = 0; next = 0 }))
ended_of (Return key x) = ([], (0, record { last = 0; next = 0 }))
ended_of (Pool p o) = ([], (0, record { last = 0; next = 0 }))

-- the book after a statement without a fault
next_end : (b : Book) (q : Query) (s : List ℕ) (g : ℕ) (x : ways.End) → entry_of q ≡ Some (End s g x) → HasNoEndFault q → next b q ≡ end_book b s g x (end_known_by x (end_at b s g))
next_end b (States t stated) s g x e right =
    ap (λ (f : Option SegmentFault). stating_book b t stated f) (right t stated refl)
    ∙ ap (λ (f : Entry). let p = ended_of f in end_book b p.0 p.1.0 p.1.1 (end_known_by p.1.1 (end_at b p.0 p.1.0))) (one_entry (End t (place_stated stated) (ways.end_stated stated)) (End s g x) e)
next_end b (Puts t m y) s g x e right = absurd (apart (one_entry (Transmission t m y) (End s g x) e))
  where
    apart : Transmission t m y ≡ End s g x → ⊥
    apart h = cc
next_end b (StatesFaulty f) s g x e right = absurd (some_entry (End s g x) e)
next_end b (PutsReturn key y) s g x e right = absurd (apart (one_entry (Return key y) (End s g x) e))
  where
    apart : Return key y ≡ End s g x → ⊥
    apart h = cc
next_end b (Closes p o) s g x e right = absurd (apart (one_entry (Pool p o) (End s g x) e))
  where
    apart : Pool p o ≡ End s g x → ⊥
    apart h = cc
next_end b (ClosesFaulty f) s g x e right = absurd (some_entry (End s g x) e)
next_end b (Inquires i) s g x e right = absurd (some_entry (End s g x) e)
next_end b AsksElsewhere s g x e right = absurd (some_entry (End s g x) e)

-- under the number of what was brought something is there after the step
step_brought : (o : Office) (b : Book) (q : Query) (r : Reply) (c : Book) → Step o b q r c → (e : Entry) → Fits b e → BringsEntry q r e → Something c e
step_brought o b q r c step (Transmission s n x) fits brings =
    ⊎_elim
    (λ (done : (r ≡ answer o b q) × (c ≡ next b q)).
    let after = put_there b s n x (body_at b s n) refl brings.1 fits in
    (after.0, subst (λ (d : Book). IsIn d (Transmission s n after.0)) (sym (done.1 ∙ next_put b q s n x brings.0)) after.1))
    (λ (busy : (r ≡ Refused Unavailable) × (c ≡ b)). absurd (brings.2 busy.0))
    step
step_brought o b q r c step (End s g x) fits brings =
    ⊎_elim
    (λ (done : (r ≡ answer o b q) × (c ≡ next b q)).
    let after = end_there b s g x (end_at b s g) refl fits in
    (after.0, subst (λ (d : Book). IsIn d (End s g after.0)) (sym (done.1 ∙ next_end b q s g x brings.0 brings.1)) after.1))
    (λ (busy : (r ≡ Refused Unavailable) × (c ≡ b)). absurd (brings.2 busy.0))
    step
step_brought o b q r c step (Return key x) fits brings =
    ⊎_elim
    (λ (done : (r ≡ answer o b q) × (c ≡ next b q)).
    let after = return_there b key x (return_at b key) refl brings.1 in
    (after.0, subst (λ (d : Book). IsIn d (Return key after.0)) (sym (done.1 ∙ next_return b q key x brings.0)) after.1))
    (λ (busy : (r ≡ Refused Unavailable) × (c ≡ b)). absurd (brings.2 busy.0))
    step
step_brought o b q r c step (Pool p u) fits brings = step_there o b q r c step (Pool p u) brings

run_brought : (o : Office) (b : Book) (qs : List Query) (rs : List Reply) (c : Book) → Run o b qs rs c → (e : Entry) → Fits c e → IsBrought qs rs e → Something c e
run_brought o b [] rs c run e fits brought = absurd brought
run_brought o b (q ∷ qs) (r ∷ rs) c run e fits brought =
    ⊎_elim
    (λ (now : BringsEntry q r e).
    let keeps = λ (f : Entry) (is : IsIn b f). run_keeps o b (q ∷ qs) (r ∷ rs) c run f is in
    still_something run.0 c (λ f is. run_keeps o run.0 qs rs c run.2 f is) e (step_brought o b q r run.0 run.1 e (fits_before b c keeps e fits) now))
    (λ (later : IsBrought qs rs e). run_brought o run.0 qs rs c run.2 e fits later)
    brought
run_brought o b (q ∷ qs) [] c run e fits brought = absurd brought

-- where no number came with two contents, nor above an end, what was brought fits what is there
brought_fits : (o : Office) (b : Book) (qs : List Query) (rs : List Reply) (c : Book) → Run o b qs rs c → OneContent b qs rs → (e : Entry) → IsBrought qs rs e → Fits c e
brought_fits o b qs rs c run one (Transmission s n x) brought = λ e stated.
    one.within s n x e (inr brought) (run_came o b qs rs c run (End s (segment_of n) e) stated)
brought_fits o b qs rs c run one (End s g e) brought = λ n x there same.
    one.within s n x e (run_came o b qs rs c run (Transmission s n x) there) (subst (λ (h : ℕ). Came b qs rs (End s h e)) (sym same) (inr brought))
brought_fits o b qs rs c run one (Return key x) brought = tt
brought_fits o b qs rs c run one (Pool p u) brought = tt

-- what was brought, where no number came with two contents, is what is there
brought_is : (o : Office) (b : Book) (qs : List Query) (rs : List Reply) (c : Book) → Run o b qs rs c → OneContent b qs rs → (e : Entry) → IsBrought qs rs e → IsIn c e
brought_is o b qs rs c run one e brought = by_entry e brought (run_brought o b qs rs c run e (brought_fits o b qs rs c run one e brought) brought)
  where
    by_entry : (f : Entry) → IsBrought qs rs f → Something c f → IsIn c f
    by_entry (Transmission s n x) came there =
        there.1 ∙ ap (λ (y : List ℕ). Some y) (one.transmissions s n there.0 x (run_came o b qs rs c run (Transmission s n there.0) there.1) (inr came))
    by_entry (End s g x) came there =
        there.1 ∙ ap (λ (y : ways.End). Some y) (one.ends s g there.0 x (run_came o b qs rs c run (End s g there.0) there.1) (inr came))
    by_entry (Return key x) came there =
        there.1 ∙ ap (λ (y : List ℕ). Some y) (one.returns key there.0 x (run_came o b qs rs c run (Return key there.0) there.1) (inr came))
    by_entry (Pool p u) came there = there

-- where no number of a segment is above a last one, none of those that are there is
pub past_is_none : (b : Book) (s : List ℕ) (g last k : ℕ) → number_past b s g last ≡ None → is_there b s k ≡ true → segment_of k ≡ g → sequence_of k ≤ last
past_is_none b s g last k none there same = none_passes (numbers_of b s) none (there_of_numbers b s k ∙ there)
  where
    some_last : (n : ℕ) (ns : List ℕ) → last_number_of (n ∷ ns) ≡ None → ⊥
    some_last n [] e = cc
    some_last n (m ∷ ns) e = some_last m ns e

    within : (t : Bool) → nat_lt last (sequence_of k) ≡ t → t ≡ false → sequence_of k ≤ last
    within t is stops = not_less last (sequence_of k) (is ∙ stops)
      where
        not_less : (a c : ℕ) → nat_lt a c ≡ false → c ≤ a
        not_less a c h = grind (arith, nat_tests)

    says : is_past g last k ≡ false → sequence_of k ≤ last
    says not_past =
        let equal : (segment_of k == g) ≡ true = equals (segment_of k) g same in
        within (nat_lt last (sequence_of k)) refl (sym (ap (λ (t : Bool). t && nat_lt last (sequence_of k)) equal) ∙ not_past)
      where
        equals : (a c : ℕ) → a ≡ c → (a == c) ≡ true
        equals a c h = grind (arith, nat_tests, h)

    none_passes : (ns : List ℕ) → last_number_of (filter (is_past g last) ns) ≡ None → is_one_of ns k ≡ true → sequence_of k ≤ last
    none_passes ns e one = by_test (is_past g last k) refl
      where
        by_list : (ms : List ℕ) → last_number_of ms ≡ None → is_one_of ms k ≡ true → ⊥
        by_list [] e is = false≢true is
        by_list (m ∷ ms) e is = some_last m ms e

        by_test : (t : Bool) → is_past g last k ≡ t → sequence_of k ≤ last
        by_test false is = says is
        by_test true is =
            absurd (by_list (filter (is_past g last) ns) e (one_that_passes (is_past g last) k ns ∙ ap (λ (c : Bool). c && is_one_of ns k) is ∙ one))

-- a step keeps what fits
step_fits : (o : Office) (b : Book) (q : Query) (r : Reply) (c : Book) → Step o b q r c → ((s : List ℕ) → AreFitting b s) → (s : List ℕ) → AreFitting c s
step_fits o b q r c step before t =
    ⊎_elim
    (λ (stays : Stays b q r c). subst (λ (d : Book). AreFitting d t) (sym stays.same) (before t))
    (λ (adds : Adds b q r c). subst (λ (d : Book). AreFitting d t) (sym adds.next) (with_one adds.entry adds.free adds.unrefused))
    (step_changes o b q r c step)
  where
    with_one : (e : Entry) → IsFree b e → IsUnrefused b e → AreFitting (with_entry b e) t
    with_one (Transmission s n x) free unrefused = record {
      right = (before t).right;
      within = λ k there.
          let found = some_body (body_at (with_entry b (Transmission s n x)) t k) there in
          ⊎_elim
          (λ (now : Transmission s n x ≡ Transmission t k found.0).
          let its = λ (e : ways.End) (is : end_at b s (segment_of n) ≡ Some e). is_not_ended (sequence_of n) (end_at b s (segment_of n)) unrefused e is in
          subst (λ (f : Entry). let p = parts_of f in IsWithinEnd (ends_of b p.0) p.1.0) now its)
          (λ (earlier : IsIn b (Transmission t k found.0)). (before t).within k (ap is_some earlier))
          (entry_from b (Transmission s n x) (Transmission t k found.0) found.1);
    }
    with_one (End s g x) free unrefused = record {
      right = record {
        within = λ h y stated. either h y stated (λ i z. z.last ≤ most_in i) unrefused.0.last (before t).right.within;
        later = λ h y stated. either h y stated (λ i z. i < z.next) unrefused.0.later (before t).right.later;
      };
      within = λ k there y stated. fits k there y (entry_from b (End s g x) (End t (segment_of k) y) stated);
    }
      where
        either : (h : ℕ) (y : ways.End) → end_at (with_entry b (End s g x)) t h ≡ Some y → (P : ℕ → ways.End → Type 0) → P g x → ((i : ℕ) (z : ways.End) → end_at b t i ≡ Some z → P i z) → P h y
        either h y stated P its earlier =
            ⊎_elim
            (λ (now : End s g x ≡ End t h y). subst (λ (f : Entry). let p = ended_of f in P p.1.0 p.1.1) now its)
            (λ (was : IsIn b (End t h y)). earlier h y was)
            (entry_from b (End s g x) (End t h y) stated)

        fits : (k : ℕ) → is_there b t k ≡ true → (y : ways.End) → (End s g x ≡ End t (segment_of k) y) ⊎ IsIn b (End t (segment_of k) y) → sequence_of k ≤ y.last
        fits k there y (inl now) =
            let sender : s ≡ t = ap (λ (f : Entry). (ended_of f).0) now in
            let segment : g ≡ segment_of k = ap (λ (f : Entry). (ended_of f).1.0) now in
            let end : x ≡ y = ap (λ (f : Entry). (ended_of f).1.1) now in
            subst (λ (z : ways.End). sequence_of k ≤ z.last) end
            (past_is_none b s g x.last k unrefused.1 (subst (λ (q : List ℕ). is_there b q k ≡ true) (sym sender) there) (sym segment))
        fits k there y (inr was) = (before t).within k there y was
    with_one (Return key x) free unrefused = record { right = (before t).right; within = (before t).within }
    with_one (Pool p o) free unrefused = record { right = (before t).right; within = (before t).within }

-- and so does a run
pub run_fits : (o : Office) (b : Book) (qs : List Query) (rs : List Reply) (c : Book) → Run o b qs rs c → ((s : List ℕ) → AreFitting b s) → (s : List ℕ) → AreFitting c s
run_fits o b [] [] c run fits s = subst (λ (d : Book). AreFitting d s) (sym run) (fits s)
run_fits o b (q ∷ qs) (r ∷ rs) c run fits s = run_fits o run.0 qs rs c run.2 (step_fits o b q r run.0 run.1 fits) s
run_fits o b [] (r ∷ rs) c run fits s = absurd run
run_fits o b (q ∷ qs) [] c run fits s = absurd run

-- where no number came with two contents, the book holds exactly what came
pub holds_what_came : (o : Office) (b : Book) (qs : List Query) (rs : List Reply) (c : Book) → Run o b qs rs c → OneContent b qs rs → HoldsWhatCame b qs rs c
holds_what_came o b qs rs c run one e = (
  run_came o b qs rs c run e,
  ⊎_elim (λ (first : IsIn b e). run_keeps o b qs rs c run e first) (λ (brought : IsBrought qs rs e). brought_is o b qs rs c run one e brought),
)

same_option : {X : Type 0} (o p : Option X) → ((x : X) → o ≡ Some x → p ≡ Some x) → ((x : X) → p ≡ Some x → o ≡ Some x) → o ≡ p
same_option None None to from = refl
same_option None (Some x) to from = from x refl
same_option (Some x) p to from = sym (to x refl)

-- books with the same entries are one
pub same_book : (c d : Book) → ((e : Entry) → IsIn c e → IsIn d e) → ((e : Entry) → IsIn d e → IsIn c e) → c ≡ d
same_book c d to from =
    let transmissions : c.transmissions ≡ d.transmissions = finite.same_map transmissions_total exact_transmissions c.transmissions d.transmissions (λ (k : TransmissionKey).
    same_option (body_at c k.sender k.number) (body_at d k.sender k.number) (λ x. to (Transmission k.sender k.number x)) (λ x. from (Transmission k.sender k.number x))) in
    let ends : c.ends ≡ d.ends = finite.same_map segments_total exact_segments c.ends d.ends (λ (k : SegmentKey).
    same_option (end_at c k.sender k.segment) (end_at d k.sender k.segment) (λ x. to (End k.sender k.segment x)) (λ x. from (End k.sender k.segment x))) in
    let returns : c.returns ≡ d.returns = finite.same_map returns_total exact_returns c.returns d.returns (λ (k : ReturnKey).
    same_option (return_at c k) (return_at d k) (λ x. to (Return k x)) (λ x. from (Return k x))) in
    let pools : c.pools ≡ d.pools = finite.same_map nat_cmp_total exact_numbers c.pools d.pools (λ (p : ℕ).
    same_option (order_at c p) (order_at d p) (λ x. to (Pool p x)) (λ x. from (Pool p x))) in
    ap (λ (m : finite.FinMap transmission_cmp (List ℕ)). let book : Book = record { transmissions = m; ends = c.ends; returns = c.returns; pools = c.pools } in book) transmissions
    ∙ ap (λ (m : Ends). let book : Book = record { transmissions = d.transmissions; ends = m; returns = c.returns; pools = c.pools } in book) ends
    ∙ ap (λ (m : finite.FinMap return_cmp (List ℕ)). let book : Book = record { transmissions = d.transmissions; ends = d.ends; returns = m; pools = c.pools } in book) returns
    ∙ ap (λ (m : finite.FinMap nat_cmp Order). let book : Book = record { transmissions = d.transmissions; ends = d.ends; returns = d.returns; pools = m } in book) pools

-- where no end came, nothing is asked of ends
pub one_of_unstated : UnstatedIsOneContent
one_of_unstated b qs rs none sent paid = record {
  transmissions = sent;
  ends = λ s g x y came also. absurd (none s g x came);
  within = λ s n x e came stated. absurd (none s (segment_of n) e stated);
  returns = paid;
}

-- what was refused, repeated, reordered or asked between makes no difference to the book
pub accepted_alike : (o : Office) (b : Book) (qs : List Query) (rs : List Reply) (c : Book) (ps : List Query) (ss : List Reply) (d : Book) → Run o b qs rs c → Run o b ps ss d → AcceptedAlike b qs rs ps ss → c ≡ d
accepted_alike o b qs rs c ps ss d run other alike =
    let here = holds_what_was_accepted o b qs rs c run in
    let there = holds_what_was_accepted o b ps ss d other in
    same_book c d (λ e is. (there e).1 ((alike e).0 ((here e).0 is))) (λ e is. (here e).1 ((alike e).1 ((there e).0 is)))

-- the order and the repetition of what is brought make no difference to the book
pub order_is_free : (o : Office) (b : Book) (qs : List Query) (rs : List Reply) (c : Book) (ps : List Query) (ss : List Reply) (d : Book) → Run o b qs rs c → Run o b ps ss d → OneContent b qs rs → BroughtAlike b qs rs ps ss → c ≡ d
order_is_free o b qs rs c ps ss d run other one alike =
    let here = holds_what_came o b qs rs c run one in
    let one' : OneContent b ps ss = record {
      transmissions = λ s n x y f g. one.transmissions s n x y ((alike (Transmission s n x)).1 f) ((alike (Transmission s n y)).1 g);
      ends = λ s n x y f g. one.ends s n x y ((alike (End s n x)).1 f) ((alike (End s n y)).1 g);
      within = λ s n x e f g. one.within s n x e ((alike (Transmission s n x)).1 f) ((alike (End s (segment_of n) e)).1 g);
      returns = λ k x y f g. one.returns k x y ((alike (Return k x)).1 f) ((alike (Return k y)).1 g);
    } in
    let there = holds_what_came o b ps ss d other one' in
    same_book c d (λ e is. (there e).1 ((alike e).0 ((here e).0 is))) (λ e is. (here e).1 ((alike e).1 ((there e).0 is)))

-- the answers that were appended to a list of requests tell what the book holds
pub tells_what_came : (o : Office) (b c : Book) (clean : Bool) (requests : List Request) (old new : List Answer) → AppendsRun o b c clean requests old new → IsTrue clean → TellsWhatCame b c requests old new
tells_what_came o b c clean requests old new ran still more appended one =
    let same : ran.more ≡ more = append_cancel_left old ran.more more (sym ran.appended ∙ appended) in
    let run = subst (λ (xs : List Answer). Run o b (map query_of requests) (map reply_of xs) c) same (ran.run still) in
    holds_what_came o b (map query_of requests) (map reply_of more) c run one
