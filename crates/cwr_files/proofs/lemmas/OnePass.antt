-- The pass over the lines of a body that finds its first fault, line after line as they end.
use Rattle.std.proofs.Common.{◌≡◌, ◌≢◌, ℕ, ◌+◌, ◌-◌, ◌^◌, ◌<◌, ◌≤◌, Bool, true, false, cond, eqb, List, [], ◌∷◌, ◌++◌, length, take, drop, map, refl, ap, sym, ◌∙◌, arith, length-append, append_assoc, subst, Option, Some, None}
use Rattle.std.specs.Prelude.{not, sum_by}
use Rattle.std.proofs.lemmas.Bool.{eqb-true, false≢true}
use Rattle.std.proofs.lemmas.List.{append-nil, nil_from_length, length-map, length-take, length-drop, drop-drop, drop-append-le}
use Rattle.std.proofs.lemmas.List.Sums.{sum_by-cons}
use Rattle.cwr_records.specs.Lines.{pieces, line_of_piece, has_line_end, IsWholePiece}
use Rattle.cwr_records.proofs.lemmas.Lines.{onto_front, open-pieces}
use Rattle.cwr_files.specs.declared.fault.FileFault.{FileFault}
use Rattle.cwr_files.specs.declared.counts.Counts.{Counts}
use Rattle.cwr_files.specs.declared.counts.OpenGroup.{OpenGroup}
use Rattle.cwr_files.specs.declared.counts.Stage.TheVariants.{Between, Within, Ended}
use Rattle.cwr_files.specs.declared.progress.Progress.{Progress}
use Rattle.cwr_files.specs.LineFaults.{is_too_large, too_large, no_trailer}
use Rattle.cwr_files.specs.LinesBefore.{is_ended, is_open}
use Rattle.cwr_files.specs.FileFault.{fault_at, end_fault, fault_or, fault_from, file_fault}
use Rattle.cwr_files.specs.Counts.{counts_of, end_in, counted_end, HasRoom}
use Rattle.cwr_files.specs.Prefixes.{IsSettled}
use Rattle.cwr_files.specs.ReadTo.{IsReadTo, HasReadLines}
use Rattle.cwr_files.proofs.lemmas.Chained.{structure_fault, fault-chained}
use Rattle.cwr_files.proofs.lemmas.Room.{counts_room}
use Rattle.cwr_files.proofs.lemmas.TooLarge.{too_large-parts, too_large-from, larger, line-grows}

-- the lines before a place are read, and the next bytes, so many, hold no line end
pub record IsAtLine (sender body : List ℕ) (at : Progress) (known : ℕ) : Type 0 where
  pub read : IsReadTo sender body at
  pub within : at.start + known ≤ length body
  pub none_there : has_line_end (take known (drop at.start body)) ≡ false

-- no line is read
pub read-none : (sender body : List ℕ) (counts : Counts) → counts ≡ counts_of [] → IsReadTo sender body (record { counts = counts; start = 0 })
unfolding file_fault
read-none sender body counts e = record {
  past = [];
  counted = e;
  same = λ more. refl;
  read = refl;
  lines = omega arith;
  within = omega arith;
  small = omega arith;
}

pub read-room : (sender body : List ℕ) (at : Progress) → IsReadTo sender body at → HasRoom at.counts
read-room sender body at r =
    let few : length (map line_of_piece r.past) < 2 ^ 62 = omega (arith, length-map r.past line_of_piece, r.lines, r.small) in
    rw r.counted (counts_room (map line_of_piece r.past) few)

sized-parts : (b : Bool) (f : Option ℕ) → cond b (Some too_large) f ≡ None → (b ≡ false) × (f ≡ None)
sized-parts true f e = absurd cc
sized-parts false f e = (refl, e)

-- a line without a fault is within the sizes
pub fault_at-none : (sender : List ℕ) (past : List (List ℕ)) (end : ℕ) (line : List ℕ) → fault_at sender past end line ≡ None → (is_too_large end line ≡ false) × (structure_fault sender past line ≡ None)
fault_at-none sender past end line e =
    sized-parts (is_too_large end line) (structure_fault sender past line) (sym (fault-chained sender past end line) ∙ e)

pub fault_at-large : (sender : List ℕ) (past : List (List ℕ)) (end : ℕ) (line : List ℕ) → is_too_large end line ≡ true → fault_at sender past end line ≡ Some too_large
fault_at-large sender past end line large =
    fault-chained sender past end line ∙ ap (λ b. cond b (Some too_large) (structure_fault sender past line)) large

-- the line that is next, from the lines that are read
pub lines-read : (sender body : List ℕ) (at : Progress) (r : IsReadTo sender body at) → at.counts.lines ≡ length r.past
unfolding counts_of
lines-read sender body at r = ap (λ (c : Counts). c.lines) r.counted ∙ length-map r.past line_of_piece

-- what is found from a piece on that is the next whatever follows
pub unfold-piece : (sender body piece after : List ℕ) (at : Progress) (end : ℕ) (more : List ℕ) (r : IsReadTo sender body at) → pieces (drop at.start body ++ more) ≡ piece ∷ pieces after → end ≡ at.start + length piece →
    fault_or (fault_at sender (map line_of_piece r.past) end (line_of_piece piece)) (length r.past + 1) (fault_from sender (piece ∷ r.past) (pieces after)) ≡ file_fault sender (body ++ more)
unfold-piece sender body piece after at end more r cut e =
    let here : end ≡ sum_by length r.past + length piece = omega (arith, e, r.read) in
    ap (λ n. fault_or (fault_at sender (map line_of_piece r.past) n (line_of_piece piece)) (length r.past + 1) (fault_from sender (piece ∷ r.past) (pieces after))) here
    ∙ ap (fault_from sender r.past) (sym cut) ∙ r.same more

faulty : (o : Option ℕ) (number lines line : ℕ) (later : Option FileFault) → o ≡ Some number → lines + 1 ≡ line → fault_or o line later ≡ Some (record { number = number; line = lines + 1 })
faulty o number lines line later e l = ap (λ x. fault_or x line later) e ∙ ap (λ n. Some (record { number = number; line = n })) (sym l)

-- a line that has ended

piece-length : (bytes : List ℕ) (count : ℕ) → IsWholePiece bytes count → length (take count bytes) ≡ count
piece-length bytes count w = omega (arith, length-take count bytes, w.within)

pub after-piece : (sender body : List ℕ) (at : Progress) (count end : ℕ) (r : IsReadTo sender body at) → IsWholePiece (drop at.start body) count → end ≡ at.start + count → (more : List ℕ) →
    fault_or (fault_at sender (map line_of_piece r.past) end (line_of_piece (take count (drop at.start body)))) (length r.past + 1) (fault_from sender (take count (drop at.start body) ∷ r.past) (pieces (drop end body ++ more))) ≡ file_fault sender (body ++ more)
after-piece sender body at count end r w e more =
    let cut : drop count (drop at.start body) ≡ drop end body = drop-drop count at.start body ∙ ap (λ n. drop n body) (sym e) in
    let long : end ≡ at.start + length (take count (drop at.start body)) = omega (arith, e, piece-length (drop at.start body) count w) in
    unfold-piece sender body (take count (drop at.start body)) (drop end body ++ more) at end more r (w.always more ∙ ap (λ b. take count (drop at.start body) ∷ pieces (b ++ more)) cut) long

whole-rest : (bytes rest : List ℕ) (count : ℕ) → bytes ≡ rest → IsWholePiece bytes count → IsWholePiece rest count
whole-rest bytes rest count e w = let P : List ℕ → Type 0 = λ x. IsWholePiece x count in subst P e w

-- a line that has ended without a fault is read
pub reads-line : (sender body line : List ℕ) (at : Progress) (count end : ℕ) (counts : Counts) (r : IsReadTo sender body at) → IsWholePiece (drop at.start body) count → end ≡ at.start + count → line ≡ line_of_piece (take count (drop at.start body)) → (fault_at sender (map line_of_piece r.past) end line ≡ None) × (counts ≡ counts_of (line ∷ map line_of_piece r.past)) → IsReadTo sender body (record { counts = counts; start = end })
reads-line sender body line at count end counts r w e l h =
    let piece : List ℕ = take count (drop at.start body) in
    let none : fault_at sender (map line_of_piece r.past) end (line_of_piece (take count (drop at.start body))) ≡ None = ap (fault_at sender (map line_of_piece r.past) end) (sym l) ∙ h.0 in
    record {
      past = take count (drop at.start body) ∷ r.past;
      counted = h.1 ∙ ap (λ x. counts_of (x ∷ map line_of_piece r.past)) l;
      same = λ more. ap (λ o. fault_or o (length r.past + 1) (fault_from sender (take count (drop at.start body) ∷ r.past) (pieces (drop end body ++ more)))) (sym none) ∙ after-piece sender body at count end r w e more;
      read = omega (arith, sum_by-cons length (take count (drop at.start body)) r.past, r.read, e, piece-length (drop at.start body) count w);
      lines = omega (arith, r.lines, e, w.some);
      within = omega (arith, e, w.within, length-drop at.start body, r.within);
      small = (too_large-parts end (line_of_piece (take count (drop at.start body))) (fault_at-none sender (map line_of_piece r.past) end (line_of_piece (take count (drop at.start body))) none).0).1;
    }

-- the fault of a line that has ended is that of each body that goes on
pub settles-line : (sender body line : List ℕ) (at : Progress) (count end number : ℕ) (r : IsReadTo sender body at) → IsWholePiece (drop at.start body) count → end ≡ at.start + count → line ≡ line_of_piece (take count (drop at.start body)) → fault_at sender (map line_of_piece r.past) end line ≡ Some number → IsSettled sender body (record { number = number; line = at.counts.lines + 1 })
settles-line sender body line at count end number r w e l h = λ more.
    sym (after-piece sender body at count end r w e more)
    ∙ faulty _ number at.counts.lines (length r.past + 1) _ (ap (fault_at sender (map line_of_piece r.past) end) (sym l) ∙ h) (ap (λ n. n + 1) (lines-read sender body at r))

-- the pass goes one line on, and stands at the next
pub next-line : (sender body bytes line : List ℕ) (at : Progress) (count : ℕ) (counts : Counts) (r : IsReadTo sender body at) → bytes ≡ drop at.start body → IsWholePiece bytes count → line ≡ line_of_piece (take (at.start + count - at.start) (drop at.start body)) → (fault_at sender (map line_of_piece r.past) (at.start + count) line ≡ None) × (counts ≡ counts_of (line ∷ map line_of_piece r.past)) → IsAtLine sender body (record { counts = counts; start = at.start + count }) 0
next-line sender body bytes line at count counts r cut whole l h =
    let w = whole-rest bytes (drop at.start body) count cut whole in
    let same : at.start + count - at.start ≡ count = omega arith in
    let read = reads-line sender body line at count (at.start + count) counts r (whole-rest bytes (drop at.start body) count cut whole) refl (l ∙ ap (λ n. line_of_piece (take n (drop at.start body))) same) h in
    record { read = read; within = omega (arith, w.within, length-drop at.start body, r.within); none_there = refl }

pub fault-line : (sender body bytes line : List ℕ) (at : Progress) (count number : ℕ) (f : FileFault) (r : IsReadTo sender body at) → bytes ≡ drop at.start body → IsWholePiece bytes count → line ≡ line_of_piece (take (at.start + count - at.start) (drop at.start body)) → fault_at sender (map line_of_piece r.past) (at.start + count) line ≡ Some number → f ≡ record { number = number; line = at.counts.lines + 1 } → IsSettled sender body f
fault-line sender body bytes line at count number f r cut whole l h is =
    let same : at.start + count - at.start ≡ count = omega arith in
    let settled = settles-line sender body line at count (at.start + count) number r (whole-rest bytes (drop at.start body) count cut whole) refl (l ∙ ap (λ n. line_of_piece (take n (drop at.start body))) same) h in
    λ more. settled more ∙ ap (λ x. Some x) (sym is)

-- a last line that has not ended

after-front : (sender body first : List ℕ) (at : Progress) (more : List ℕ) (ps : List (List ℕ)) (r : IsReadTo sender body at) → pieces (drop at.start body ++ more) ≡ first ∷ ps →
    fault_or (fault_at sender (map line_of_piece r.past) (sum_by length r.past + length first) (line_of_piece first)) (length r.past + 1) (fault_from sender (first ∷ r.past) ps) ≡ file_fault sender (body ++ more)
after-front sender body first at more ps r cut = ap (fault_from sender r.past) (sym cut) ∙ r.same more

pub rest-length : (sender body : List ℕ) (at : Progress) (r : IsReadTo sender body at) → length body ≡ sum_by length r.past + length (drop at.start body)
rest-length sender body at r = omega (arith, r.read, length-drop at.start body, r.within)

empty-fits : (sender body rest : List ℕ) (at : Progress) (r : IsReadTo sender body at) → length body ≡ sum_by length r.past + length rest → rest ≡ [] → is_too_large (length body) (line_of_piece rest) ≡ false
unfolding line_of_piece
empty-fits sender body rest at r long none =
    let short : length (line_of_piece rest) ≡ 0 = ap (λ b. length (line_of_piece b)) none in
    too_large-from (length body) (line_of_piece rest) (omega (arith, short)) (omega (arith, long, ap length none, r.read, r.small))

large-has-some : (sender body : List ℕ) (at : Progress) (r : IsReadTo sender body at) → is_too_large (length body) (line_of_piece (drop at.start body)) ≡ true → drop at.start body ≢ []
large-has-some sender body at r large = λ none. false≢true (sym (empty-fits sender body (drop at.start body) at r (rest-length sender body at r) none) ∙ large)

large-first : (sender body first p : List ℕ) (at : Progress) (more : List ℕ) (ps : List (List ℕ)) (h : HasReadLines sender body at) → pieces (drop at.start body ++ more) ≡ first ∷ ps → first ≡ drop at.start body ++ p → is_too_large (length body) (line_of_piece (drop at.start body)) ≡ true → file_fault sender (body ++ more) ≡ Some (record { number = too_large; line = at.counts.lines + 1 })
large-first sender body first p at more ps h cut is large =
    let r = h.read in
    let far : length body ≤ sum_by length r.past + length first = omega (arith, rest-length sender body at h.read, ap length is, length-append (drop at.start body) p) in
    let long : length (line_of_piece (drop at.start body)) ≤ length (line_of_piece first) = omega (arith, line-grows (drop at.start body) p h.no_end, ap (λ b. length (line_of_piece b)) is) in
    let grown = larger (length body) (sum_by length r.past + length first) (line_of_piece (drop at.start body)) (line_of_piece first) far long large in
    sym (after-front sender body first at more ps h.read cut)
    ∙ faulty _ too_large at.counts.lines (length r.past + 1) _ (fault_at-large sender (map line_of_piece r.past) (sum_by length r.past + length first) (line_of_piece first) grown) (ap (λ n. n + 1) (lines-read sender body at h.read))

-- a last line that is too large already is so whatever follows
pub settles-size : (sender body : List ℕ) (at : Progress) → HasReadLines sender body at → is_too_large (length body) (line_of_piece (drop at.start body)) ≡ true → IsSettled sender body (record { number = too_large; line = at.counts.lines + 1 })
settles-size sender body at h large = λ more. onto (pieces more) more (open-pieces (drop at.start body) more (large-has-some sender body at h.read large) h.no_end) where
  onto : (ps : List (List ℕ)) (more : List ℕ) → pieces (drop at.start body ++ more) ≡ onto_front (drop at.start body) ps → file_fault sender (body ++ more) ≡ Some (record { number = too_large; line = at.counts.lines + 1 })
  onto [] more cut = large-first sender body (drop at.start body) [] at more [] h cut (sym (append-nil (drop at.start body))) large
  onto (p ∷ ps) more cut = large-first sender body (drop at.start body ++ p) p at more ps h cut refl large

-- what is left of the body, by the test whether it is empty

pub none-left : (bytes rest : List ℕ) (t : Bool) → bytes ≡ rest → t ≡ eqb (length bytes) 0 → t ≡ true → rest ≡ []
none-left bytes rest t cut is empty = sym cut ∙ nil_from_length bytes (eqb-true (length bytes) 0 (sym is ∙ empty))

pub some-left : (bytes rest : List ℕ) (t : Bool) → bytes ≡ rest → t ≡ eqb (length bytes) 0 → t ≡ false → rest ≢ []
some-left bytes rest t cut is other = λ none. false≢true (sym other ∙ is ∙ ap (λ b. eqb (length b) 0) (cut ∙ none))

-- the end of the body

end-chosen : (ended opened : Bool) (g : OpenGroup) (c : Counts) → end_in (cond ended Ended (cond opened (Within g) Between)) c ≡ fault_or (cond (not ended) (Some no_trailer) None) (c.lines + 1) None
end-chosen true opened g c = refl
end-chosen false true g c = refl
end-chosen false false g c = refl

pub end-behind : (past : List (List ℕ)) → counted_end (counts_of past) ≡ end_fault past
unfolding counts_of
end-behind [] = refl
end-behind (l ∷ past) = end-chosen (is_ended (l ∷ past)) (is_open (l ∷ past)) _ (counts_of (l ∷ past))

at-end : (sender body : List ℕ) (at : Progress) (r : IsReadTo sender body at) → fault_from sender r.past (pieces (drop at.start body)) ≡ file_fault sender body
at-end sender body at r =
    ap (λ b. fault_from sender r.past (pieces b)) (sym (append-nil (drop at.start body))) ∙ r.same [] ∙ ap (file_fault sender) (append-nil body)

-- nothing stands behind the lines that are read
pub ends-behind-lines : (sender body : List ℕ) (at : Progress) → IsReadTo sender body at → drop at.start body ≡ [] → counted_end at.counts ≡ file_fault sender body
ends-behind-lines sender body at r none =
    ap counted_end r.counted ∙ end-behind (map line_of_piece r.past) ∙ ap (λ b. fault_from sender r.past (pieces b)) (sym none) ∙ at-end sender body at r

pub last-line : (sender body : List ℕ) (at : Progress) (h : HasReadLines sender body at) → drop at.start body ≢ [] → fault_or (fault_at sender (map line_of_piece h.read.past) (length body) (line_of_piece (drop at.start body))) (length h.read.past + 1) (end_fault (line_of_piece (drop at.start body) ∷ map line_of_piece h.read.past)) ≡ file_fault sender body
last-line sender body at h some =
    let r = h.read in
    let one : pieces (drop at.start body) ≡ drop at.start body ∷ [] = ap pieces (sym (append-nil (drop at.start body))) ∙ open-pieces (drop at.start body) [] some h.no_end in
    ap (λ n. fault_or (fault_at sender (map line_of_piece r.past) n (line_of_piece (drop at.start body))) (length r.past + 1) (end_fault (line_of_piece (drop at.start body) ∷ map line_of_piece r.past))) (rest-length sender body at h.read)
    ∙ ap (fault_from sender r.past) (sym one) ∙ at-end sender body at h.read

-- the last line has no fault
pub ends-behind-last : (sender body line : List ℕ) (at : Progress) (counts : Counts) (h : HasReadLines sender body at) → drop at.start body ≢ [] → line ≡ line_of_piece (drop at.start body) → (fault_at sender (map line_of_piece h.read.past) (length body) line ≡ None) × (counts ≡ counts_of (line ∷ map line_of_piece h.read.past)) → counted_end counts ≡ file_fault sender body
ends-behind-last sender body line at counts h some l found =
    let r = h.read in
    let none : fault_at sender (map line_of_piece r.past) (length body) (line_of_piece (drop at.start body)) ≡ None = ap (fault_at sender (map line_of_piece r.past) (length body)) (sym l) ∙ found.0 in
    ap counted_end (found.1 ∙ ap (λ x. counts_of (x ∷ map line_of_piece r.past)) l) ∙ end-behind (line_of_piece (drop at.start body) ∷ map line_of_piece r.past)
    ∙ ap (λ o. fault_or o (length r.past + 1) (end_fault (line_of_piece (drop at.start body) ∷ map line_of_piece r.past))) (sym none)
    ∙ last-line sender body at h some

-- the last line has a fault
pub ends-faulty : (sender body line : List ℕ) (at : Progress) (number : ℕ) (h : HasReadLines sender body at) → drop at.start body ≢ [] → line ≡ line_of_piece (drop at.start body) → fault_at sender (map line_of_piece h.read.past) (length body) line ≡ Some number → Some (record { number = number; line = at.counts.lines + 1 }) ≡ file_fault sender body
ends-faulty sender body line at number h some l found =
    let r = h.read in
    sym (faulty _ number at.counts.lines (length r.past + 1) _ (ap (fault_at sender (map line_of_piece r.past) (length body)) (sym l) ∙ found) (ap (λ n. n + 1) (lines-read sender body at h.read)))
    ∙ last-line sender body at h some

-- the counts behind the last line have room
pub last-room : (sender body line : List ℕ) (at : Progress) (counts : Counts) (r : IsReadTo sender body at) → counts ≡ counts_of (line ∷ map line_of_piece r.past) → counts.lines < 2 ^ 63
unfolding counts_of
last-room sender body line at counts r e = omega (arith, ap (λ (c : Counts). c.lines) e, length-map r.past line_of_piece, r.lines, r.small)

-- bytes that follow change nothing of what is read
pub reads-more : (sender body piece : List ℕ) (at : Progress) → IsReadTo sender body at → IsReadTo sender (body ++ piece) at
reads-more sender body piece at r = record {
  past = r.past;
  counted = r.counted;
  same = λ more.
      ap (λ b. fault_from sender r.past (pieces (b ++ more))) (drop-append-le at.start body piece r.within)
      ∙ ap (λ b. fault_from sender r.past (pieces b)) (append_assoc (drop at.start body) piece more)
      ∙ r.same (piece ++ more) ∙ ap (file_fault sender) (sym (append_assoc body piece more));
  read = r.read;
  lines = r.lines;
  within = omega (arith, r.within, length-append body piece);
  small = r.small;
}
