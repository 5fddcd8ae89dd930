-- The runs that go on when a transmission comes, or an end of a segment, and the run of a whole line.
use Rattle.std.proofs.Common.{◌≡◌, ◌∙◌, ◌+◌, ◌++◌, ℕ, List, [], ◌∷◌, None, nat_lt, refl, ap, ap₂, sym, subst, arith, true}
use Rattle.share_rules.specs.declared.office.Office.{Office}
use Rattle.sqlite_trees.specs.Tree.{Trees}
use Rattle.sender_segments.specs.Ways.{end_stated}
use Rattle.society_core.specs.Answers.{place_in_book, place_by}
use Rattle.society_core.specs.Book.{AreOrderly, Book, IsSound, body_at, end_at, front, is_entry, is_in_line, with_end, with_transmission}
use Rattle.society_core.specs.Ends.{ended_before, fault_stated, number_past, place_stated}
use Rattle.society_core.proofs.lemmas.Books.{AllBelow, sound_order, stated_keeps, stated_order}
use Rattle.society_core.proofs.lemmas.GrowthLemmas.{is_stated}
use Rattle.society_core.proofs.lemmas.HeadlineLemmas.{past_is_none}
use Rattle.society_core.proofs.lemmas.Stores.{end_entry}
use Rattle.society_arrivals.specs.Arriving.{ArrivesBy, ArrivesWith, BeginsRun, EndsRun, GoesOnTo, MayBeStated, MayCome, StatesBy, StatesWith, TakesRun}
use Rattle.society_book.specs.EndLists.{end_listed, ReadsEnds}
use Rattle.society_arrivals.specs.Going.{ComesTo, ComesToGap, IsWholeIn, RunsOn, RunsOver}
use Rattle.society_book.specs.Kept.{HoldsBook}
use Rattle.society_arrivals.specs.Runs.{RunValue}
use Rattle.society_arrivals.specs.Arrivals.{HasReached}
use Rattle.society_arrivals.proofs.lemmas.HeldAdds.{first_run, held_goes, next_applied, next_comes, next_goes, next_order, no_run, stated_comes, told_other}
use Rattle.society_arrivals.proofs.lemmas.SegmentEnds.{goes_to, whole_is}
use Rattle.society_book.proofs.lemmas.rows_alike.EndRows.{listed_stated}
use Rattle.work_ids.specs.SenderKey.{is_sender_key}
use Rattle.work_ids.specs.SegmentEnds.{StatedEnd}
use Rattle.work_ids.specs.Segments.{segment_of}

-- the run that begins with the next transmission
pub begins_run : (o : Office) (s : List ℕ) (n : ℕ) (body : List ℕ) (begun on over : RunValue) (ends : List StatedEnd) (db : Trees) → begun ≡ first_run o n body → RunsOn s begun on db → ReadsEnds s db ends → RunsOver s ends n on over db → BeginsRun o s n body db over
begins_run o s n body begun on over ends db is goes reads goes_over b holds at may =
    let next = with_transmission b s n body in
    let order = next_order b s n body holds.sound may s in
    let comes : ComesTo o next s (front b s) begun = subst (λ (r : RunValue). ComesTo o next s (front b s) r) (sym is) (next_comes b s n body holds.sound may at o) in
    let to : begun.reached ≡ n = ap (λ (r : RunValue). r.reached) is in
    let went = goes o next (front b s) (record { before = b; has = holds.kept.transmissions; same = λ k past. sym (told_other b s n body k (λ e. omega (arith, e, past, to))) }) order comes in
    let later = went.1.later in
    let end =
    goes_over o next (front b s) (record { before = b; has = holds.kept.transmissions; same = λ k past. sym (told_other b s n body k (λ e. omega (arith, e, past, to, later))) }) order (reads b holds.kept.ends)
    (went.1.segment ∙ ap segment_of to) went.0 in
    let more = next_goes b s n body holds.sound may in
    goes_to o next s order b (sound_order b holds.sound s).right (λ g e stated. stated) more.0 more.1 over end

-- so with it the line goes on from its front, in which it is then
pub next_arrives : (o : Office) (s : List ℕ) (n : ℕ) (body : List ℕ) (reached : ℕ) (run : RunValue) (db : Trees) → n ≡ reached + 1 → BeginsRun o s n body db run → ArrivesBy o s n body reached db run
next_arrives o s n body reached run db is begins b holds at may =
    let first : n ≡ front b s + 1 = is ∙ ap (λ (k : ℕ). k + 1) at in
    let goes = begins b holds first may in
    (goes, next_applied b s n body holds.sound may first run.reached goes.reached ∙ ap (λ (k : ℕ). nat_lt k run.reached) (sym at))

-- with any other it does not go on
pub held_arrives : (o : Office) (s : List ℕ) (n : ℕ) (body : List ℕ) (reached : ℕ) (run : RunValue) (db : Trees) → (n ≡ reached + 1 → ⊥) → run ≡ no_run o reached → ArrivesBy o s n body reached db run
held_arrives o s n body reached run db apart is b holds at may =
    let held = held_goes b s n body holds.sound may o (λ e. apart (e ∙ ap (λ (k : ℕ). k + 1) (sym at))) in
    let Arrived : ℕ → RunValue → Type 0 = λ f r. GoesOnTo o b (with_transmission b s n body) s r × (is_in_line (with_transmission b s n body) s n ≡ nat_lt f r.reached) in
    subst (Arrived reached) (sym is) (subst (λ (f : ℕ). Arrived f (no_run o f)) (sym at) held)

-- so the transmission comes with its run, and its number stands there then
pub arrives_with : (o : Office) (s : List ℕ) (n : ℕ) (body : List ℕ) (reached works : ℕ) (run : RunValue) (old new : Trees) → is_entry s n body ≡ true → ((p : Office) (b : Book) → HoldsBook p b old → HasReached p b s reached works)
    → ArrivesBy o s n body reached old run → TakesRun s n body works run old new → ArrivesWith o s n body old new (place_by run.reached (nat_lt reached run.reached))
arrives_with o s n body reached works run old new entry has arrives takes = (
  λ b holds free within. (comes b holds free within).0,
  λ b holds free within. (comes b holds free within).1,
)
  where
    comes : (b : Book) → HoldsBook o b old → body_at b s n ≡ None → ended_before b s n ≡ None
        → HoldsBook o (with_transmission b s n body) new × (place_by run.reached (nat_lt reached run.reached) ≡ place_in_book (with_transmission b s n body) s n)
    comes b holds free within =
        let may : MayCome b s n body = record { free = free; entry = entry; within = within } in
        let at = has o b holds in
        let by = arrives b holds at.0 may in
        (takes o b holds at.1 may by.0, ap₂ place_by by.0.reached (sym by.1))

-- with an end that may be stated the ends of every sender are in order
pub ended_order : (b : Book) (s : List ℕ) (stated : StatedEnd) → IsSound b → MayBeStated b s stated → (t : List ℕ)
    → AreOrderly (with_end b s (place_stated stated) (end_stated stated)).transmissions (with_end b s (place_stated stated) (end_stated stated)).ends t
ended_order b s stated sound may t =
    stated_order b s (place_stated stated) (end_stated stated) sound may.free (end_entry s stated may.key may.right)
    (λ n there same. past_is_none b s (place_stated stated) stated.last n may.above there same) t

-- the run behind the front when an end comes
pub states_run : (o : Office) (s : List ℕ) (stated : StatedEnd) (reached : ℕ) (begun over : RunValue) (read ends : List StatedEnd) (db : Trees) → ReadsEnds s db read → ends ≡ read ++ stated ∷ [] → begun ≡ no_run o reached → RunsOver s ends reached begun over db → StatesBy o s stated reached db over
states_run o s stated reached begun over read ends db reads pushed is goes_over b holds at may =
    let g = place_stated stated in
    let end = end_stated stated in
    let next = with_end b s g end in
    let entry = end_entry s stated may.key may.right in
    let below : AllBelow b s g end = λ n there same. past_is_none b s g stated.last n may.above there same in
    let order = stated_order b s g end holds.sound may.free entry below s in
    let begins = subst (λ (r : RunValue). ComesToGap o next s (front b s) r) (sym (is ∙ ap (no_run o) at)) (stated_comes o b s g end holds.sound may.free) in
    let comes =
    goes_over o next (front b s) (record { before = b; has = holds.kept.transmissions; same = λ k past. refl }) order
    (ap end_listed pushed ∙ listed_stated b s read stated (reads b holds.kept.ends) may.free)
    (ap (λ (r : RunValue). segment_of r.reached) is) begins in
    let more = is_stated b s g end holds.sound may.free entry below in
    goes_to o next s order b (sound_order b holds.sound s).right (λ h e there. stated_keeps b s g end may.free s h e there) more.0 more.1 over comes

-- the run of a whole line
pub whole_by : (o : Office) (s : List ℕ) (begun on over : RunValue) (ends : List StatedEnd) (db : Trees) → begun ≡ no_run o 0 → ReadsEnds s db ends → RunsOn s begun on db → RunsOver s ends 0 on over db → IsWholeIn o s db over
whole_by o s begun on over ends db is reads goes goes_over b keeps order =
    let comes : ComesTo o b s 0 begun = subst (λ (r : RunValue). ComesTo o b s 0 r) (sym is) (record { its = refl; reached = refl; numbers = refl; each = tt }) in
    let to : begun.reached ≡ 0 = ap (λ (r : RunValue). r.reached) is in
    let went = goes o b 0 (record { before = b; has = keeps.transmissions; same = λ k past. refl }) order comes in
    let end = goes_over o b 0 (record { before = b; has = keeps.transmissions; same = λ k past. refl }) order (reads b keeps.ends) (went.1.segment ∙ ap segment_of to) went.0 in
    whole_is o b s order over end

-- so the end comes with its run, and this is its sender's front then
pub states_with : (o : Office) (s : List ℕ) (stated : StatedEnd) (reached works : ℕ) (run : RunValue) (old new : Trees) → is_sender_key s ≡ true → fault_stated stated ≡ None → ((p : Office) (b : Book) → HoldsBook p b old → HasReached p b s reached works)
    → StatesBy o s stated reached old run → EndsRun s stated works run old new → StatesWith o s stated old new run.reached
states_with o s stated reached works run old new key right has states ends = (
  λ b holds free above. (comes b holds free above).0,
  λ b holds free above. (comes b holds free above).1,
)
  where
    comes : (b : Book) → HoldsBook o b old → end_at b s (place_stated stated) ≡ None → number_past b s (place_stated stated) stated.last ≡ None
        → HoldsBook o (with_end b s (place_stated stated) (end_stated stated)) new × (run.reached ≡ front (with_end b s (place_stated stated) (end_stated stated)) s)
    comes b holds free above =
        let may : MayBeStated b s stated = record { key = key; right = right; free = free; above = above } in
        let at = has o b holds in
        let by = states b holds at.0 may in
        (ends o b holds at.1 may by, by.reached)
