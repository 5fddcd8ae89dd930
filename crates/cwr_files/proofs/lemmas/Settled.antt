-- What is pending has no fault that each body has that goes on so: as it stands it is not too large, and it can become so.
use Rattle.std.proofs.Common.{◌≡◌, ◌≢◌, ℕ, ◌+◌, ◌-◌, ◌≤◌, Bool, true, false, cond, eqb, List, [], ◌∷◌, ◌++◌, length, take, drop, map, replicate, min, subst, append_assoc, Result, Ok, Err, if◌then◌else◌, refl, ap, sym, ◌∙◌, arith, length-append, ◌⊎◌, inl, inr, Option, Some, None, suc, zero}
use Rattle.std.specs.Result.{is_ok}
use Rattle.std.proofs.lemmas.Bool.{false≢true, or_from}
use Rattle.std.proofs.lemmas.List.{append-nil, length-replicate, length-take, drop-append-le, take_all, take-append-drop}
use Rattle.std.proofs.lemmas.List.Folds.{list_any-append}
use Rattle.cwr_records.specs.Lines.{line_of_piece, has_line_end}
use Rattle.cwr_files.specs.Sizes.{max_line, max_body}
use Rattle.cwr_files.specs.declared.fault.FileFault.{FileFault}
use Rattle.cwr_files.specs.declared.fault.ReadFault.{ReadFault}
use Rattle.cwr_files.specs.declared.fault.ReadFault.TheVariants as read_faults
use Rattle.cwr_files.specs.declared.progress.Progress.{Progress}
use Rattle.cwr_files.specs.Sentences.{Sentence, first_that_holds}
use Rattle.cwr_files.specs.LineFaults.{is_too_large, structure_sentences, end_sentences, too_large}
use Rattle.cwr_files.specs.Counts.{counted_end}
use Rattle.cwr_files.specs.FileFault.{fault_at, end_fault, fault_or, file_fault}
use Rattle.cwr_files.specs.Prefixes.{IsSettled, IsUnsettled}
use Rattle.cwr_files.specs.ReadTo.{IsReadTo, IsPending, IsKnown}
use Rattle.cwr_files.specs.Fed.{Fed, Stops, StaysSettled}
use Rattle.cwr_files.proofs.lemmas.TooLarge.{too_large-parts, too_long, line-loses-one}
use Rattle.cwr_files.proofs.lemmas.OnePass.{reads-more, settles-size, ends-behind-lines, last-line, end-behind}

-- sentences of other faults than 12
AreOthers : List Sentence → Type 0
AreOthers [] = Unit {0}
AreOthers (s ∷ more) = (eqb s.fault too_large ≡ false) × AreOthers more

some-is : (n m : ℕ) → Some n ≡ Some m → n ≡ m
some-is n m e = cc

other-number : (more : List Sentence) → AreOthers more → first_that_holds more ≡ Some too_large → ⊥
unfolding AreOthers
other-number [] a e = absurd cc
other-number (s ∷ more) a e = chosen s.holds s.fault more a.0 (other-number more a.1) e where
  chosen : (t : Bool) (n : ℕ) (ss : List Sentence) → eqb n too_large ≡ false → (first_that_holds ss ≡ Some too_large → ⊥) → cond t (Some n) (first_that_holds ss) ≡ Some too_large → ⊥
  chosen true n ss other later is = false≢true (sym other ∙ ap (λ m. eqb m too_large) (some-is n too_large is))
  chosen false n ss other later is = later is

structure-other : (sender : List ℕ) (past : List (List ℕ)) (line : List ℕ) → first_that_holds (structure_sentences sender past line) ≡ Some too_large → ⊥
unfolding AreOthers
structure-other sender past line = other-number (structure_sentences sender past line) (refl, (refl, (refl, (refl, (refl, (refl, (refl, (refl, (refl, (refl, (refl, tt)))))))))))

end-other : (past : List (List ℕ)) → first_that_holds (end_sentences past) ≡ Some too_large → ⊥
unfolding AreOthers
end-other past = other-number (end_sentences past) (refl, (refl, tt))

-- a line that is not too large has another fault than 12, or none
line-other : (sender : List ℕ) (past : List (List ℕ)) (end : ℕ) (line : List ℕ) → is_too_large end line ≡ false → fault_at sender past end line ≡ Some too_large → ⊥
unfolding fault_at
line-other sender past end line fits e =
    structure-other sender past line (sym (ap (λ t. cond t (Some too_large) (first_that_holds (structure_sentences sender past line))) fits) ∙ e)

number-at : (o : Option ℕ) (line : ℕ) (later : Option FileFault) (f : FileFault) → f.number ≡ too_large → (o ≡ Some too_large → ⊥) → (later ≡ Some f → ⊥) → fault_or o line later ≡ Some f → ⊥
number-at None line later f is a b e = b e
number-at (Some n) line later f is a b e = a (ap (λ m. Some m) (number-of n line f e ∙ is)) where
  number-of : (n line : ℕ) (f : FileFault) → Some (record { number = n; line = line }) ≡ Some f → n ≡ f.number
  number-of n line f e = let same : record { number = n; line = line } ≡ f = cc in ap (λ (g : FileFault). g.number) same

end-number : (past : List (List ℕ)) (f : FileFault) → f.number ≡ too_large → end_fault past ≡ Some f → ⊥
end-number past f is e = number-at (first_that_holds (end_sentences past)) (length past + 1) None f is (end-other past) (λ n. absurd cc) e

-- many bytes without an LF
long-line : (n : ℕ) → has_line_end (replicate n 65) ≡ false
long-line zero = refl
long-line (suc n) = long-line n

empty-or-not : (bs : List ℕ) → (bs ≡ []) ⊎ (bs ≢ [])
empty-or-not [] = inl refl
empty-or-not (b ∷ bs) = inr (λ e. cc)

-- as it stands, what is pending has another fault than 12, or none
now-other : (sender body : List ℕ) (at : Progress) → IsPending sender body at → (f : FileFault) → f.number ≡ too_large → file_fault sender body ≡ Some f → ⊥
now-other sender body at w f is e =
    let h = w.lines in
    let r = h.read in
    elim (empty-or-not (drop at.start body)) [
      | inl none ↦ end-number (map line_of_piece r.past) f is (sym (ap counted_end r.counted ∙ end-behind (map line_of_piece r.past)) ∙ ends-behind-lines sender body at w.lines.read none ∙ e)
      | inr some ↦
          number-at (fault_at sender (map line_of_piece r.past) (length body) (line_of_piece (drop at.start body))) (length r.past + 1) (end_fault (line_of_piece (drop at.start body) ∷ map line_of_piece r.past)) f is
          (line-other sender (map line_of_piece r.past) (length body) (line_of_piece (drop at.start body)) w.fits)
          (λ x. end-number (line_of_piece (drop at.start body) ∷ map line_of_piece r.past) f is x)
          (last-line sender body at w.lines some ∙ e)
    ]

-- with many bytes more it has fault 12
then-large : (sender body more : List ℕ) (at : Progress) → IsPending sender body at → has_line_end more ≡ false → length more ≡ max_line + 2 → file_fault sender (body ++ more) ≡ Some (record { number = too_large; line = at.counts.lines + 1 })
then-large sender body more at w no_end many =
    let r = reads-more sender body more at w.lines.read in
    let cut : drop at.start (body ++ more) ≡ drop at.start body ++ more = drop-append-le at.start body more w.lines.read.within in
    let free : has_line_end (drop at.start (body ++ more)) ≡ false = ap has_line_end cut ∙ list_any-append (λ b. eqb b 10) (drop at.start body) more ∙ or_from _ _ w.lines.no_end no_end in
    let long : max_line + 1 ≤ length (line_of_piece (drop at.start (body ++ more))) = omega (arith, line-loses-one (drop at.start (body ++ more)) free, ap length cut, length-append (drop at.start body) more) in
    ap (file_fault sender) (sym (append-nil (body ++ more)))
    ∙ settles-size sender (body ++ more) at (record { read = reads-more sender body more at w.lines.read; no_end = free }) (too_long (length (body ++ more)) (line_of_piece (drop at.start (body ++ more))) long) []

number-same : (f g : FileFault) → Some f ≡ Some g → f.number ≡ g.number
number-same f g e = let same : f ≡ g = cc in ap (λ (h : FileFault). h.number) same

-- no fault of what is pending is settled
pub unsettled : (sender body : List ℕ) (at : Progress) → IsPending sender body at → IsUnsettled sender body
unsettled sender body at w f all =
    let large = then-large sender body (replicate (max_line + 2) 65) at w (long-line (max_line + 2)) (length-replicate {A = ℕ} (max_line + 2) 65) in
    now-other sender body at w f (number-same f _ (sym (all (replicate (max_line + 2) 65)) ∙ large)) (ap (file_fault sender) (sym (append-nil body)) ∙ all [])

-- a settled fault is the only one
pub settled-one : (sender body : List ℕ) (f g : FileFault) → IsSettled sender body f → IsSettled sender body g → f ≡ g
settled-one sender body f g a c = let same : Some f ≡ Some g = sym (a []) ∙ c [] in cc

-- and that of the body as it stands
pub settled-now : (sender body : List ℕ) (f : FileFault) → IsSettled sender body f → Some f ≡ file_fault sender body
settled-now sender body f all = sym (all []) ∙ ap (file_fault sender) (append-nil body)

-- before its first byte a body is pending
pub pending-none : (sender : List ℕ) (at : Progress) → at.start ≡ 0 → IsReadTo sender [] at → IsPending sender [] at
unfolding is_too_large line_of_piece
pending-none sender at start r = record {
  lines = record { read = r; no_end = ap (λ n. has_line_end (drop n [])) start };
  fits = ap (λ n. is_too_large 0 (line_of_piece (drop n []))) start;
}

-- what callers see of a reader in pieces
abbrev pub seen-of : List ℕ → List ℕ → Fed
seen-of sender body = record { sender = sender; body = body }

-- what a reader in pieces knows, where it knows a fault, and where it knows none

pub known-some : (sender body : List ℕ) (at : Progress) (known : Option FileFault) (f : FileFault) → IsKnown sender body at known → known ≡ Some f → IsSettled sender body f
known-some sender body at known f k e = let P : Option FileFault → Type 0 = λ o. IsKnown sender body at o in subst P e k

pub known-none : (sender body : List ℕ) (at : Progress) (known : Option FileFault) → IsKnown sender body at known → known ≡ None → IsPending sender body at
known-none sender body at known k e = let P : Option FileFault → Type 0 = λ o. IsKnown sender body at o in subst P e k

-- a fault that is known stays, and no byte is kept
pub stops-again : (seen old : Fed) (piece : List ℕ) (f : FileFault) → seen ≡ old → IsSettled seen.sender seen.body f → Stops old piece old f
stops-again seen old piece f is s = record {
  sender = refl;
  dropped = piece;
  joined = refl;
  settled = let P : Fed → Type 0 = λ x. IsSettled x.sender x.body f in subst P is s;
}

pub stays-known : (seen old : Fed) (f : FileFault) → seen ≡ old → IsSettled seen.sender seen.body f → StaysSettled old old (Err (read_faults.File f))
stays-known seen old f is s = λ g t.
    let P : Fed → Type 0 = λ x. IsSettled x.sender x.body f in
    let here : IsSettled old.sender old.body f = subst P is s in
    (ap (λ x. Err (read_faults.File x)) (settled-one old.sender old.body f g here t), refl)

-- where no fault is known, nothing is asked of what stays
pub stays-open : (seen old new : Fed) (at : Progress) (result : Result (Unit {0}) ReadFault) → seen ≡ old → IsPending seen.sender seen.body at → StaysSettled old new result
stays-open seen old new at result is w = λ f s.
    let P : Fed → Type 0 = λ x. IsSettled x.sender x.body f in
    absurd (unsettled seen.sender seen.body at w f (subst P (sym is) s))

-- a front of the piece was kept, and it told the fault
pub stops-here : (seen old new : Fed) (piece kept body : List ℕ) (n : ℕ) (f : FileFault) → seen ≡ old → new ≡ record { sender = seen.sender; body = body } → body ≡ seen.body ++ kept → kept ≡ take n piece → IsSettled seen.sender body f → Stops old piece new f
stops-here seen old new piece kept body n f is made grown cut s = record {
  sender = ap (λ (x : Fed). x.sender) made ∙ ap (λ (x : Fed). x.sender) is;
  dropped = drop n piece;
  joined = ap (λ (x : Fed). x.body ++ piece) (sym is)
      ∙ ap (λ p. seen.body ++ p) (sym (take-append-drop n piece)) ∙ sym (append_assoc seen.body (take n piece) (drop n piece))
      ∙ ap (λ k. (seen.body ++ k) ++ drop n piece) (sym cut) ∙ ap (λ b. b ++ drop n piece) (sym grown)
      ∙ ap (λ (x : Fed). x.body ++ drop n piece) (sym made);
  settled = let P : Fed → Type 0 = λ x. IsSettled x.sender x.body f in subst P (sym made) s;
}

-- the piece was kept whole, since what is pending is within the sizes
pub takes-piece : (seen old new : Fed) (piece kept body : List ℕ) (room n : ℕ) (at : Progress) → seen ≡ old → new ≡ record { sender = seen.sender; body = body } → body ≡ seen.body ++ kept → kept ≡ take n piece → n ≡ min (length piece) room → room ≡ max_body + 1 - length seen.body → IsPending seen.sender body at → (new ≡ record old { body = old.body ++ piece }) × IsUnsettled new.sender new.body
takes-piece seen old new piece kept body room n at is made grown cut count left w =
    let fits = (too_large-parts (length body) (line_of_piece (drop at.start body)) w.fits).1 in
    let many : length body ≡ length seen.body + length kept = ap length grown ∙ length-append seen.body kept in
    let all : length piece ≤ n = omega (arith, fits, many, ap length cut, length-take n piece, count, left) in
    let whole : kept ≡ piece = cut ∙ take_all n piece all in
    let make : Fed → Fed = λ x. record x { body = x.body ++ piece } in (
      made ∙ ap (λ b. record { sender = seen.sender; body = b }) (grown ∙ ap (λ k. seen.body ++ k) whole) ∙ ap make is,
      (let P : Fed → Type 0 = λ x. IsUnsettled x.sender x.body in subst P (sym made) (unsettled seen.sender body at w)),
    )

-- no memory was had, and nothing was kept
pub nothing-added : {E : Type 0} (result : Result (Unit {0}) E) (items more new : List ℕ) → new ≡ (if is_ok result then items ++ more else items) → ((x : Unit {0}) → result ≡ Ok x → ⊥) → new ≡ items
nothing-added (Ok x) items more new e none = absurd (none x refl)
nothing-added (Err x) items more new e none = e

pub stays-as-it-was : (seen old new : Fed) (at : Progress) → seen ≡ old → new ≡ seen → IsPending seen.sender seen.body at → (new ≡ old) × IsUnsettled old.sender old.body
stays-as-it-was seen old new at is same w =
    let P : Fed → Type 0 = λ x. IsUnsettled x.sender x.body in
    (same ∙ is, subst P is (unsettled seen.sender seen.body at w))

-- what is pending is no larger than a body may be
pub pending-small : (sender body : List ℕ) (at : Progress) → IsPending sender body at → length body ≤ max_body
pending-small sender body at w = (too_large-parts (length body) (line_of_piece (drop at.start body)) w.fits).1
