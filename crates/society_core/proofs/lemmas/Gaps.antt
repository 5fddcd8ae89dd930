-- What stands behind a sender's first gap counts nowhere.
use Rattle.std.proofs.Common.{◌≡◌, ℕ, ◌+◌, ◌==◌, ◌||◌, Bool, true, false, cond, List, [], ◌∷◌, Option, Some, None, filter, map, nat_le, option_map, unwrap_or, refl, ap, sym, subst, ◌∙◌, arith, ⊎_elim}
use Rattle.std.specs.List.{AllByRecursion, slice_get}
use Rattle.std.specs.Option.{option_and_then}
use Rattle.std.proofs.lemmas.Bool.{cases_Bool}
use Rattle.std.proofs.lemmas.Bool.Decides.{nat_tests}
use Rattle.cwr_files.specs.Contents.{transmission_in, transactions_of}
use Rattle.share_rules.specs.declared.office.Office.{Office}
use Rattle.ack_files.specs.Acknowledgement.{acknowledgement_file}
use Rattle.works_core.specs.Line.{NumberedTransmission, line_of, verdicts_at}
use Rattle.works_core.specs.Numbered.{JudgedTransmission, has_number, up_to}
use Rattle.works_core.specs.Versions.{Placed, is_version, last_version, placed_at, placed_behind, placed_behind_all, placed_line, version_of, work_at}
use Rattle.works_core.specs.declared.judged.Judged as judgement
use Rattle.works_core.specs.declared.version.WorkVersion.{WorkVersion}
use Rattle.society_core.specs.Answers.{answer, shown_answer, shown_by, shown_version}
use Rattle.society_core.specs.Book.{Book, ack, body_at, front, is_in_line, is_one_of, numbers_to, sent_under, shown_verdicts, transmissions_to, verdicts_in, version_in}
use Rattle.society_core.specs.Headline.{AlikeToTheGap}
use Rattle.works_core.specs.declared.verdict.Verdict.{Verdict}
use Rattle.society_core.specs.Requests.{Acknowledged, Described, Inquires, Judged, Shown}
use Rattle.society_core.specs.declared.inquiry.Inquiry.TheVariants as inquiries
use Rattle.society_core.proofs.lemmas.Fronts.{second_holds}
use Rattle.society_core.proofs.lemmas.LineNumbers.{in_line_of_to, is_first, is_later, one_that_passes}
use Rattle.society_core.proofs.lemmas.Lines.{line_to, over_has, over_up_to}

-- a transaction of a transmission of a line
abbrev IsPlaced : List JudgedTransmission → Placed → Type 0
IsPlaced line t = has_number t.transmission line ≡ true

more_placed : (P : Placed → Type 0) (past : List Placed) (n place : ℕ) (judged : List judgement.Judged) → ((k : ℕ) (j : judgement.Judged) → P (placed_at n k j)) → AllByRecursion P past → AllByRecursion P (placed_behind past n place judged)
more_placed P past n place [] each all = all
more_placed P past n place (j ∷ judged) each all = more_placed P (placed_at n place j ∷ past) n (place + 1) judged each (each place j, all)

all_placed : (P : Placed → Type 0) (past : List Placed) (line : List JudgedTransmission) → ((x : JudgedTransmission) → has_number x.number line ≡ true → (k : ℕ) (j : judgement.Judged) → P (placed_at x.number k j)) → AllByRecursion P past → AllByRecursion P (placed_behind_all past line)
all_placed P past [] each all = all
all_placed P past (x ∷ line) each all =
    all_placed P (placed_behind past x.number 0 x.judged) line (λ y has. each y (or_later (x.number == y.number) has))
    (more_placed P past x.number 0 x.judged (each x (itself (has_number x.number line))) all)
  where
    or_later : {r : Bool} (t : Bool) → r ≡ true → (t || r) ≡ true
    or_later true h = refl
    or_later false h = h

    itself : (r : Bool) → ((x.number == x.number) || r) ≡ true
    itself r = grind (arith, nat_tests)

last_of : (P : Placed → Type 0) (Q : ℕ → Type 0) (work : List ℕ) (past : List Placed) (v : WorkVersion) → ((t : Placed) → P t → Q t.transmission) → AllByRecursion P past → last_version work past ≡ Some v → Q v.transmission
last_of P Q work [] v turn all e = absurd (none_found e)
  where
    none_found : ◌≡◌ {A = Option WorkVersion} None (Some v) → ⊥
    none_found e = cc
last_of P Q work (t ∷ past) v turn all e =
    ⊎_elim
    (λ (yes : is_version work past t ≡ true).
    let found : Some (version_of work past t) ≡ Some v = sym (ap (λ (b : Bool). cond b (Some (version_of work past t)) (last_version work past)) yes) ∙ e in
    let same : version_of work past t ≡ v = cc in
    subst (λ (w : WorkVersion). Q w.transmission) same (turn t all.0))
    (λ (no : is_version work past t ≡ false).
    last_of P Q work past v turn all.1 (sym (ap (λ (b : Bool). cond b (Some (version_of work past t)) (last_version work past)) no) ∙ e))
    (cases_Bool (is_version work past t))

-- the version of a work at a cut is of a transmission up to the cut
pub version_among : (line : List JudgedTransmission) (work : List ℕ) (cut : ℕ) (v : WorkVersion) → work_at line work cut ≡ Some v → has_number v.transmission (up_to cut line) ≡ true
unfolding work_at
version_among line work cut v e =
    last_of (IsPlaced (up_to cut line)) (λ (n : ℕ). has_number n (up_to cut line) ≡ true) work (placed_line (up_to cut line)) v (λ t h. h)
    (all_placed (IsPlaced (up_to cut line)) [] (up_to cut line) (λ x has k j. has) tt) e

-- the version of a sender's work at a cut is of a transmission of its line up to the cut
pub version_in_line : (o : Office) (b : Book) (s work : List ℕ) (cut : ℕ) (v : WorkVersion) → version_in o b s work cut ≡ Some v → is_one_of (numbers_to b s cut) v.transmission ≡ true
version_in_line o b s work cut v e =
    let twice = version_among (line_to o b s cut) work cut v e in
    let has : is_one_of (filter (λ m. nat_le m cut) (numbers_to b s cut)) v.transmission ≡ true = sym (ap (has_number v.transmission) (over_up_to o b s cut (numbers_to b s cut)) ∙ over_has o b s (filter (λ m. nat_le m cut) (numbers_to b s cut)) v.transmission) ∙ twice in
    second_holds (nat_le v.transmission cut) (is_one_of (numbers_to b s cut) v.transmission) (sym (one_that_passes (λ m. nat_le m cut) v.transmission (numbers_to b s cut)) ∙ has)

-- a sender's transmissions under some numbers are alike where the bodies are
pub alike_over : (a b : Book) (s : List ℕ) (ns : List ℕ) → ((k : ℕ) → is_one_of ns k ≡ true → body_at a s k ≡ body_at b s k) → map (sent_under a s) ns ≡ map (sent_under b s) ns
alike_over a b s [] same = refl
alike_over a b s (n ∷ ns) same =
    ap (λ (o : Option (List ℕ)). (n, transmission_in (unwrap_or o [])) ∷ map (sent_under a s) ns) (same n (is_first n ns))
    ∙ ap (λ (ts : List NumberedTransmission). sent_under b s n ∷ ts) (alike_over a b s ns (λ k is. same k (is_later n k ns is)))

-- so they are up to a number, where the lines are the same
pub alike_to : (a b : Book) (s : List ℕ) (n : ℕ) → AlikeToTheGap a b s → transmissions_to a s n ≡ transmissions_to b s n
alike_to a b s n alike =
    alike_over a b s (numbers_to a s n) (λ k one. alike.same_bodies k (in_line_of_to a s n k one))
    ∙ ap (λ (ns : List ℕ). map (sent_under b s) (filter (λ m. nat_le m n) ns)) alike.same_line

version_alike : (o : Office) (a b : Book) (s work : List ℕ) → AlikeToTheGap a b s → version_in o a s work (front a s) ≡ version_in o b s work (front b s)
version_alike o a b s work alike =
    ap (λ (ts : List NumberedTransmission). work_at (line_of o ts) work (front a s)) (alike_to a b s (front a s) alike)
    ∙ ap (λ (n : ℕ). version_in o b s work n) alike.same_front

shown_alike : (o : Office) (a b : Book) (s work : List ℕ) (v : Option WorkVersion) → AlikeToTheGap a b s → version_in o a s work (front a s) ≡ v → option_and_then (shown_version o a s work) v ≡ option_and_then (shown_version o b s work) v
shown_alike o a b s work None alike e = refl
shown_alike o a b s work (Some v) alike e =
    ap (λ (x : Option (List ℕ)). option_map (shown_by o s work v) (slice_get (transactions_of (transmission_in (unwrap_or x []))) v.place))
    (alike.same_bodies v.transmission (in_line_of_to a s (front a s) v.transmission (version_in_line o a s work (front a s) v e)))

-- what is asked of a work is answered alike
pub works_alike : (o : Office) (a b : Book) (s work : List ℕ) → AlikeToTheGap a b s → answer o a (Inquires (inquiries.Work s work)) ≡ answer o b (Inquires (inquiries.Work s work))
works_alike o a b s work alike =
    ap (λ (shown : Option Shown). shown_answer (option_map Described shown))
    (shown_alike o a b s work (version_in o a s work (front a s)) alike refl
    ∙ ap (option_and_then (shown_version o b s work)) (version_alike o a b s work alike))

-- what is chosen by a test is alike where it is alike for those that pass
chosen_alike : {X : Type 0} (test : Bool) (x y z : X) → (test ≡ true → x ≡ y) → cond test x z ≡ cond test y z
chosen_alike true x y z same = same refl
chosen_alike false x y z same = refl

shown_verdicts_alike : (o : Office) (a b : Book) (s : List ℕ) (n : ℕ) → AlikeToTheGap a b s → shown_verdicts o a s n ≡ shown_verdicts o b s n
shown_verdicts_alike o a b s n alike =
    chosen_alike (is_in_line a s n) (Some (verdicts_in o a s n)) (Some (verdicts_in o b s n)) None
    (λ is. ap (λ (ts : List NumberedTransmission). Some (verdicts_at (line_of o ts) n)) (alike_to a b s n alike))
    ∙ ap (λ (ns : List ℕ). cond (is_one_of ns n) (Some (verdicts_in o b s n)) None) alike.same_line

-- and so are the verdicts of a transmission
pub verdicts_alike : (o : Office) (a b : Book) (s : List ℕ) (n : ℕ) → AlikeToTheGap a b s → answer o a (Inquires (inquiries.Verdicts s n)) ≡ answer o b (Inquires (inquiries.Verdicts s n))
verdicts_alike o a b s n alike = ap (λ (verdicts : Option (List Verdict)). shown_answer (option_map Judged verdicts)) (shown_verdicts_alike o a b s n alike)

ack_alike : (o : Office) (a b : Book) (s : List ℕ) (n : ℕ) → AlikeToTheGap a b s → ack o a s n ≡ ack o b s n
ack_alike o a b s n alike =
    let text = λ (body : Option (List ℕ)) (ts : List NumberedTransmission). Some (acknowledgement_file o s (transmission_in (unwrap_or body [])) (verdicts_at (line_of o ts) n)) in
    chosen_alike (is_in_line a s n) (text (body_at a s n) (transmissions_to a s n)) (text (body_at b s n) (transmissions_to b s n)) None
    (λ is. ap (λ (body : Option (List ℕ)). text body (transmissions_to a s n)) (alike.same_bodies n is) ∙ ap (text (body_at b s n)) (alike_to a b s n alike))
    ∙ ap (λ (ns : List ℕ). cond (is_one_of ns n) (text (body_at b s n) (transmissions_to b s n)) None) alike.same_line

-- and its acknowledgement
pub acks_alike : (o : Office) (a b : Book) (s : List ℕ) (n : ℕ) → AlikeToTheGap a b s → answer o a (Inquires (inquiries.Acknowledgement s n)) ≡ answer o b (Inquires (inquiries.Acknowledgement s n))
acks_alike o a b s n alike = ap (λ (text : Option (List ℕ)). shown_answer (option_map Acknowledged text)) (ack_alike o a b s n alike)
