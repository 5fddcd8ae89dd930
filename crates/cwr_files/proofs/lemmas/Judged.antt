-- A body without a fault is a file, and a file within the sizes has none.
use Rattle.std.proofs.Common.{◌≡◌, ℕ, ◌+◌, ◌<◌, ◌≤◌, ◌^◌, Bool, true, false, cond, eqb, List, [], ◌∷◌, length, map, refl, ap, sym, ◌∙◌, subst, arith, Option, Some, None}
use Rattle.std.specs.Prelude.{◌&&◌, sum_by, bytes_eq}
use Rattle.std.specs.List.{AllByRecursion}
use Rattle.std.proofs.lemmas.Bool.{and_parts}
use Rattle.std.proofs.lemmas.List.Elements.{All-from_recursion, recursion_from_All}
use Rattle.std.proofs.lemmas.List.Sums.{sum_by-cons}
use Rattle.cwr_records.specs.Lines.{pieces, onto_first, line_of_piece, lines}
use Rattle.cwr_files.specs.declared.fault.FileFault.{FileFault}
use Rattle.cwr_files.specs.Sizes.{max_line, max_body}
use Rattle.cwr_files.specs.declared.transmission.Transmission.{Transmission}
use Rattle.cwr_files.specs.RecordTypes.{hdr, has_type}
use Rattle.cwr_files.specs.RightLines.{is_header, is_dated, sender_of_header}
use Rattle.cwr_files.specs.LineFaults.{is_too_large, too_large}
use Rattle.cwr_files.specs.LinesBefore.{groups_before}
use Rattle.cwr_files.specs.FileFault.{fault_at, fault_or, fault_from, file_fault}
use Rattle.cwr_files.proofs.lemmas.Chained.{structure_fault, fault-chained}
use Rattle.cwr_files.specs.Counts.{counts_of}
use Rattle.cwr_files.specs.File.{File}
use Rattle.cwr_files.specs.Contents.{contents, transmission_in, is_headed}
use Rattle.cwr_files.specs.Reading.{IsTransmission, IsJudged}
use Rattle.cwr_files.proofs.lemmas.Behind.{structure-behind, counts-behind}
use Rattle.cwr_files.proofs.lemmas.OnePass.{end-behind}
use Rattle.cwr_files.proofs.lemmas.TooLarge.{too_large-parts, too_large-from}
use Rattle.cwr_files.proofs.lemmas.Passing.{Passes, passes-from}
use Rattle.cwr_files.proofs.lemmas.Steps.{at_header}
use Rattle.cwr_files.proofs.lemmas.Sound.{sound}
use Rattle.cwr_files.proofs.lemmas.Complete.{complete}
use Rattle.cwr_files.proofs.lemmas.Told.{told}

-- no piece is too large, behind n bytes
HaveSizes : ℕ → List (List ℕ) → Type 0
HaveSizes n [] = Unit {0}
HaveSizes n (p ∷ ps) = (is_too_large (n + length p) (line_of_piece p) ≡ false) × HaveSizes (n + length p) ps

fault_or-none : (o : Option ℕ) (l : ℕ) (x : Option FileFault) → fault_or o l x ≡ None → (o ≡ None) × (x ≡ None)
fault_or-none None l x e = (refl, e)
fault_or-none (Some n) l x e = absurd cc

sized-parts : (b : Bool) (f : Option ℕ) → cond b (Some too_large) f ≡ None → (b ≡ false) × (f ≡ None)
sized-parts true f e = absurd cc
sized-parts false f e = (refl, e)

fault_at-none : (sender : List ℕ) (past : List (List ℕ)) (end : ℕ) (line : List ℕ) → fault_at sender past end line ≡ None → (is_too_large end line ≡ false) × (structure_fault sender past line ≡ None)
fault_at-none sender past end line e =
    sized-parts (is_too_large end line) (structure_fault sender past line) (sym (fault-chained sender past end line) ∙ e)

fault_at-free : (sender : List ℕ) (past : List (List ℕ)) (end : ℕ) (line : List ℕ) → is_too_large end line ≡ false → structure_fault sender past line ≡ None → fault_at sender past end line ≡ None
fault_at-free sender past end line s f =
    fault-chained sender past end line ∙ ap (λ b. cond b (Some too_large) (structure_fault sender past line)) s ∙ f

bytes-more : (p : List ℕ) (past : List (List ℕ)) → sum_by length (p ∷ past) ≡ sum_by length past + length p
bytes-more p past = omega (arith, sum_by-cons length p past)

passing : (sender : List ℕ) (past ps : List (List ℕ)) → fault_from sender past ps ≡ None → Passes sender (counts_of (map line_of_piece past)) (map line_of_piece ps) × HaveSizes (sum_by length past) ps
unfolding HaveSizes
passing sender past [] e = (end-behind (map line_of_piece past) ∙ e, tt)
passing sender past (p ∷ ps) e =
    let f = fault_or-none (fault_at sender (map line_of_piece past) (sum_by length past + length p) (line_of_piece p)) (length past + 1) (fault_from sender (p ∷ past) ps) e in
    let a = fault_at-none sender (map line_of_piece past) (sum_by length past + length p) (line_of_piece p) f.0 in
    let rest = passing sender (p ∷ past) ps f.1 in (
      (
        structure-behind sender (map line_of_piece past) (line_of_piece p) ∙ a.1,
        passes-from sender _ _ (map line_of_piece ps) (sym (counts-behind sender (map line_of_piece past) (line_of_piece p) a.1)) rest.0,
      ),
      (a.0, subst (λ n. HaveSizes n ps) (bytes-more p past) rest.1),
    )

faultless : (sender : List ℕ) (past ps : List (List ℕ)) → Passes sender (counts_of (map line_of_piece past)) (map line_of_piece ps) → HaveSizes (sum_by length past) ps → fault_from sender past ps ≡ None
unfolding HaveSizes
faultless sender past [] h s = sym (end-behind (map line_of_piece past)) ∙ h
faultless sender past (p ∷ ps) h s =
    let here : structure_fault sender (map line_of_piece past) (line_of_piece p) ≡ None = sym (structure-behind sender (map line_of_piece past) (line_of_piece p)) ∙ h.0 in
    let rest = faultless sender (p ∷ past) ps (passes-from sender _ _ (map line_of_piece ps) (counts-behind sender (map line_of_piece past) (line_of_piece p) here) h.1) (subst (λ n. HaveSizes n ps) (sym (bytes-more p past)) s.1) in
    ap (λ o. fault_or o (length past + 1) (fault_from sender (p ∷ past) ps)) (fault_at-free sender (map line_of_piece past) (sum_by length past + length p) (line_of_piece p) s.0 here) ∙ rest

-- sizes

total : List (List ℕ) → ℕ
total [] = 0
total (p ∷ ps) = length p + total ps

onto-total : (b : ℕ) (ps : List (List ℕ)) → total (onto_first b ps) ≡ 1 + total ps
unfolding total
onto-total b [] = refl
onto-total b (p ∷ ps) = omega arith

cut-total : (t : Bool) (b : ℕ) (ps : List (List ℕ)) → total (cond t ((b ∷ []) ∷ ps) (onto_first b ps)) ≡ 1 + total ps
unfolding total
cut-total true b ps = refl
cut-total false b ps = onto-total b ps

-- the pieces have all bytes of the body
pieces-total : (body : List ℕ) → total (pieces body) ≡ length body
unfolding total
pieces-total [] = refl
pieces-total (b ∷ bs) = omega (arith, cut-total (eqb b 10) b (pieces bs), pieces-total bs)

lines-fit : (n : ℕ) (ps : List (List ℕ)) → HaveSizes n ps → AllByRecursion (λ l. length l ≤ max_line) (map line_of_piece ps)
unfolding HaveSizes
lines-fit n [] h = tt
lines-fit n (p ∷ ps) h = ((too_large-parts (n + length p) (line_of_piece p) h.0).0, lines-fit (n + length p) ps h.1)

body-fits : (n : ℕ) (ps : List (List ℕ)) → HaveSizes n ps → n ≤ max_body → n + total ps ≤ max_body
unfolding HaveSizes total
body-fits n [] h small = omega arith
body-fits n (p ∷ ps) h small = omega (arith, body-fits (n + length p) ps h.1 (too_large-parts (n + length p) (line_of_piece p) h.0).1)

have-sizes : (n : ℕ) (ps : List (List ℕ)) → AllByRecursion (λ l. length l ≤ max_line) (map line_of_piece ps) → n + total ps ≤ max_body → HaveSizes n ps
unfolding HaveSizes total
have-sizes n [] a b = tt
have-sizes n (p ∷ ps) a b = (too_large-from (n + length p) (line_of_piece p) a.0 (omega arith), have-sizes (n + length p) ps a.1 (omega arith))

-- both ways

start-is : counts_of [] ≡ at_header
unfolding counts_of groups_before
start-is = refl

pub holds : (sender body : List ℕ) → file_fault sender body ≡ None → IsTransmission body sender (transmission_in body)
unfolding file_fault transmission_in
holds sender body e =
    let p = passing sender [] (pieces body) e in
    let f = sound sender (lines body) (passes-from sender _ _ (lines body) start-is p.0) in
    let room : 0 ≤ max_body = omega arith in (
      record { shape = f.0; joined = f.1; is_file = f.2; told = ap contents f.1 ∙ told sender f.0 f.2 },
      record { lines_fit = All-from_recursion (λ l. length l ≤ max_line) (lines body) (lines-fit 0 (pieces body) p.1); body_fits = omega (arith, pieces-total body, body-fits 0 (pieces body) p.1 room) },
    )

pub no_fault : (sender body : List ℕ) (t : Transmission) → IsTransmission body sender t → file_fault sender body ≡ None
unfolding file_fault
no_fault sender body t h =
    let p = complete sender h.0.shape h.0.is_file in
    let q : Passes sender at_header (lines body) = subst (λ ls. Passes sender at_header ls) (sym h.0.joined) p in
    let fits = recursion_from_All (λ l. length l ≤ max_line) (lines body) h.1.lines_fit in
    faultless sender [] (pieces body) (passes-from sender _ _ (lines body) (sym start-is) q) (have-sizes 0 (pieces body) fits (omega (arith, pieces-total body, h.1.body_fits)))

pub only_one : (sender body : List ℕ) (t : Transmission) → File (lines body) sender t → t ≡ transmission_in body
unfolding transmission_in
only_one sender body t h = h.told ∙ sym (told sender h.shape h.is_file) ∙ ap contents (sym h.joined)

judged : (sender body : List ℕ) (o : Option FileFault) → file_fault sender body ≡ o → IsJudged sender body o
judged sender body None e = (holds sender body e, λ u h. only_one sender body u h)
judged sender body (Some f) e = λ t h. differ (sym (no_fault sender body t h) ∙ e) where
  differ : None ≡ Some f → ⊥
  differ e = cc

pub is_judged : (sender body : List ℕ) → IsJudged sender body (file_fault sender body)
is_judged sender body = judged sender body (file_fault sender body) refl

header-type : (sender line : List ℕ) → is_header sender line ≡ true → has_type hdr line ≡ true
unfolding is_header
header-type sender line f = (and_parts (has_type hdr line) _ (and_parts (has_type hdr line && bytes_eq (sender_of_header line) sender) (is_dated line) f).0).0

-- a body without a fault begins with a header, and is not large
pub headed : (sender body : List ℕ) → file_fault sender body ≡ None → is_headed (lines body) ≡ true
headed sender body e =
    let h = (holds sender body e).0 in
    ap is_headed h.joined ∙ header-type sender h.shape.header h.is_file.header

pub small : (sender body : List ℕ) → file_fault sender body ≡ None → length body < 2 ^ 32
small sender body e = let fits = (holds sender body e).1.body_fits in omega arith

pub reads_in : (body : List ℕ) (t : Transmission) → t ≡ contents (lines body) → t ≡ transmission_in body
unfolding transmission_in
reads_in body t e = e

pub found : (sender body : List ℕ) (t : Transmission) → file_fault sender body ≡ None → t ≡ contents (lines body) → IsTransmission body sender t
found sender body t none e = subst (λ (u : Transmission). IsTransmission body sender u) (sym (reads_in body t e)) (holds sender body none)

pub no_other : (sender body : List ℕ) (f : FileFault) (t : Transmission) → file_fault sender body ≡ Some f → IsTransmission body sender t → ⊥
no_other sender body f t e h = differ (sym (no_fault sender body t h) ∙ e) where
  differ : None ≡ Some f → ⊥
  differ e = cc
