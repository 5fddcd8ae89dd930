-- What candidates stand for: one recording more, one transaction more, one transmission more.
use Rattle.std.proofs.Common.{◌≡◌, ◌≢◌, ◌==◌, ⊎_elim, ℕ, zero, suc, ◌+◌, ◌<◌, Bool, true, false, ◌||◌, ◌&&◌, cond, not, List, [], ◌∷◌, ◌++◌, length, map, flat_map, Option, Some, None, Result, Ok, Err, OnOk, slice_get, refl, ap, sym, subst, ◌∙◌, arith, append_assoc, append-nil, get_or, unwrap_or}
use Rattle.std.proofs.lemmas.List.{map-append, map_push, length-map}
use Rattle.std.specs.Ordering.{eq_by_cmp}
use Rattle.std.proofs.lemmas.Bool.{false≢true}
use Rattle.std.proofs.lemmas.Map.Text.{is_eq-slice_cmp}
use Rattle.works_core.specs.Line.{NumberedTransmission, judged, judged_in, verdicts_at, verdicts_behind}
use Rattle.works_core.specs.Numbered.{JudgedTransmission, has_number}
use Rattle.works_core.specs.Verdicts.{behind, verdicts_from}
use Rattle.works_core.specs.declared.judged.Judged.{Judged}
use Rattle.society_core.specs.Keys.{bytes_cmp}
use Rattle.std.specs.List.{AllByRecursion, enumerate_from, filter, list_all, list_any}
use Rattle.std.proofs.lemmas.Bool.Decides.{eqb_tells}
use Rattle.std.specs.Result.{result_ok}
use Rattle.std.specs.Str.{bytes_eq}
use Rattle.std.proofs.lemmas.List.Elements.{filter-append}
use Rattle.std.proofs.lemmas.List.Folds.{list_any-append}
use Rattle.std.proofs.lemmas.Grind.{flat_map-append}
use Rattle.std.proofs.lemmas.Slice.Eq.{bytes_eq-Decides}
use Rattle.cwr_files.specs.Contents.{transactions_of, transmission_in}
use Rattle.cwr_files.specs.Transaction.{number_of_work}
use Rattle.cwr_files.specs.declared.transmission.Transaction.{Transaction}
use Rattle.cwr_files.specs.declared.transmission.Transmission.{Transmission}
use Rattle.share_rules.specs.declared.holder.Holder.{Holder}
use Rattle.share_rules.specs.declared.office.Office.{Office}
use Rattle.society_core.specs.Book.{Book, body_at, is_applied, is_one_of, numbers_to, sent_under, transmissions_to}
use Rattle.society_core.specs.Candidates.{AddsCandidates, AddsClaimant, Claimant, ListsOnce, ReachesCut, StandFor, candidate_with, claimant_by, claimant_of, claimants_among, claimants_naming, is_version_by, transactions_sent, work_where}
use Rattle.society_core.specs.Claims.{is_candidate_for}
use Rattle.society_core.proofs.lemmas.Lines.{line_has_one, line_over, line_to}
use Rattle.society_core.specs.Orders.{Order}
use Rattle.society_core.specs.Owners.{CutWork, cut_work, is_version_at, names_recording, versions_at_cut, versions_of_transmission}
use Rattle.society_core.specs.declared.claim_list.Candidate.{Candidate}
use Rattle.society_core.specs.declared.transmission_key.TransmissionKey.{TransmissionKey}
use Rattle.work_ids.specs.declared.fault.IdFault.{IdFault}
use Rattle.works_core.specs.Line.{line_of}
use Rattle.works_core.specs.Recordings.{isrcs_of}

pub both : (a b : Bool) → (a && b) ≡ true → (a ≡ true) × (b ≡ true)
both true true e = (refl, refl)
both true false e = absurd (false≢true e)
both false b e = absurd (false≢true e)

module _ (weigh : CutWork → List Holder) (of_these : List ℕ → Bool) where
  -- candidates that are more works besides stand for these too
  pub adds_by : (more : List CutWork) (old new : List Candidate) → ((isrc : List ℕ) → of_these isrc ≡ true → claimants_among new isrc ≡ claimants_among old isrc ++ claimants_naming weigh more isrc) → AddsCandidates weigh of_these more old new
  adds_by more old new e = λ works stand. record {
    same = λ isrc is.
        e isrc is
        ∙ ap (λ (cs : List Claimant). cs ++ claimants_naming weigh more isrc) (stand.same isrc is)
        ∙ sym (ap (map (claimant_by weigh)) (filter-append (names_recording isrc) works more) ∙ map-append (claimant_by weigh) (filter (names_recording isrc) works) (filter (names_recording isrc) more));
  }

  -- some works, and then others
  pub adds_then : (a b : List CutWork) (old mid new : List Candidate) → AddsCandidates weigh of_these a old mid → AddsCandidates weigh of_these b mid new → AddsCandidates weigh of_these (a ++ b) old new
  adds_then a b old mid new first second = λ works stand. subst (λ (ws : List CutWork). StandFor weigh of_these ws new) (append_assoc works a b) (second (works ++ a) (first works stand))

same_bytes : (a b : List ℕ) → bytes_eq a b ≡ true → a ≡ b
same_bytes a b = (bytes_eq-Decides a b).0

itself : (a : List ℕ) → bytes_eq a a ≡ true
itself a = (bytes_eq-Decides a a).1 refl

turned : (a b : List ℕ) → bytes_eq a b ≡ bytes_eq b a
turned a b = by_case (bytes_eq a b) (bytes_eq b a) refl refl
  where
    by_case : (p q : Bool) → bytes_eq a b ≡ p → bytes_eq b a ≡ q → p ≡ q
    by_case true true e f = refl
    by_case false false e f = refl
    by_case true false e f = let s : a ≡ b = same_bytes a b e in sym (itself a) ∙ ap (λ (x : List ℕ). bytes_eq x a) s ∙ f
    by_case false true e f = let s : b ≡ a = same_bytes b a f in sym e ∙ ap (λ (x : List ℕ). bytes_eq a x) s ∙ itself a

-- a work with its number and these holders
abbrev pub claimant : List ℕ → List ℕ → List Holder → Claimant
claimant sender work holders = record { sender = sender; work = Ok work; holders = holders }

-- the works for which candidates stand that one work makes for some recordings more
pub claimants_more : (cs : List Candidate) (sender work : List ℕ) (holders : List Holder) (isrcs : List (List ℕ)) (x : List ℕ) →
    claimants_among (cs ++ map (candidate_with sender work holders) isrcs) x ≡ claimants_among cs x ++ map (λ one. claimant sender work holders) (filter (λ one. bytes_eq one x) isrcs)
claimants_more cs sender work holders isrcs x =
    ap (map claimant_of) (filter-append (is_candidate_for x) cs (map (candidate_with sender work holders) isrcs))
    ∙ map-append claimant_of (filter (is_candidate_for x) cs) (filter (is_candidate_for x) (map (candidate_with sender work holders) isrcs))
    ∙ ap (λ (ws : List Claimant). claimants_among cs x ++ ws) (each isrcs)
  where
    each : (is : List (List ℕ)) → map claimant_of (filter (is_candidate_for x) (map (candidate_with sender work holders) is)) ≡ map (λ one. claimant sender work holders) (filter (λ one. bytes_eq one x) is)
    each [] = refl
    each (i ∷ is) = by_case (bytes_eq i x) (each is)
      where
        by_case : (b : Bool) → map claimant_of (filter (is_candidate_for x) (map (candidate_with sender work holders) is)) ≡ map (λ one. claimant sender work holders) (filter (λ one. bytes_eq one x) is) →
            map claimant_of (cond b (candidate_with sender work holders i ∷ filter (is_candidate_for x) (map (candidate_with sender work holders) is)) (filter (is_candidate_for x) (map (candidate_with sender work holders) is))) ≡ map (λ one. claimant sender work holders) (cond b (i ∷ filter (λ one. bytes_eq one x) is) (filter (λ one. bytes_eq one x) is))
        by_case true e = ap (λ (ws : List Claimant). claimant sender work holders ∷ ws) e
        by_case false e = e

-- a work adds one candidate for each of these recordings that are named
pub work_adds : (of_these : List ℕ → Bool) (sender work : List ℕ) (holders : List Holder) (named listed : List (List ℕ)) (old : List Candidate) → ListsOnce of_these named listed →
    AddsClaimant (claimant sender work holders) of_these named old (old ++ map (candidate_with sender work holders) listed)
work_adds of_these sender work holders named listed old once_each = λ x is.
    claimants_more old sender work holders listed x
    ∙ ap (λ (ws : List Claimant). claimants_among old x ++ ws) (ap (map (λ one. claimant sender work holders)) (once_each x is) ∙ by_case x (list_any (bytes_eq x) named))
  where
    by_case : (x : List ℕ) (b : Bool) → map (λ one. claimant sender work holders) (cond b (x ∷ []) []) ≡ cond b (claimant sender work holders ∷ []) []
    by_case x true = refl
    by_case x false = refl

-- once these candidates are appended
pub added_by : {X E : Type 0} (of_these : List ℕ → Bool) (sender work : List ℕ) (of_work : List Holder) (named listed : List (List ℕ)) (holders : List Holder) (isrcs : List (List ℕ)) (old new : List Candidate) (result : Result X E) → ListsOnce of_these named listed → holders ≡ of_work → isrcs ≡ listed →
    OnOk result (new ≡ old ++ map (candidate_with sender work holders) isrcs) → OnOk result (AddsClaimant (claimant sender work of_work) of_these named old new)
added_by of_these sender work of_work named listed holders isrcs old new (Err e) once_each same these appended = tt
added_by of_these sender work of_work named listed holders isrcs old new (Ok x) once_each same these appended =
    subst (AddsClaimant (claimant sender work of_work) of_these named old)
    (sym (appended ∙ ap (λ (hs : List Holder). old ++ map (candidate_with sender work hs) isrcs) same ∙ ap (λ (is : List (List ℕ)). old ++ map (candidate_with sender work of_work) is) these))
    (work_adds of_these sender work of_work named listed old once_each)

-- a work that is added with the number of its transaction is a work of the cut more
pub as_numbered : {X E : Type 0} (weigh : CutWork → List Holder) (of_these : List ℕ → Bool) (sender work : List ℕ) (t : Transaction) (old new : List Candidate) (result : Result X E) → number_of_work t ≡ Ok work →
    OnOk result (AddsClaimant (claimant sender work (weigh (cut_work sender t))) of_these (isrcs_of t) old new) → OnOk result (AddsCandidates weigh of_these (cut_work sender t ∷ []) old new)
as_numbered weigh of_these sender work t old new (Err e) numbered added = tt
as_numbered weigh of_these sender work t old new (Ok r) numbered added =
    adds_by weigh of_these (cut_work sender t ∷ []) old new
    (λ x is. added x is ∙ ap (λ (ws : List Claimant). claimants_among old x ++ ws) (by_case x (list_any (bytes_eq x) (isrcs_of t))))
  where
    same : claimant sender work (weigh (cut_work sender t)) ≡ claimant_by weigh (cut_work sender t)
    same = ap (λ (n : Result (List ℕ) IdFault). let c : Claimant = record { sender = sender; work = n; holders = weigh (cut_work sender t) } in c) (sym numbered)

    by_case : (x : List ℕ) (b : Bool) → cond b (claimant sender work (weigh (cut_work sender t)) ∷ []) [] ≡ map (claimant_by weigh) (cond b (cut_work sender t ∷ []) [])
    by_case x true = ap (λ (c : Claimant). c ∷ []) same
    by_case x false = refl

-- the number that a transaction has, where one was read
pub number_read : (n : Result (List ℕ) IdFault) (work : List ℕ) → Some work ≡ result_ok n → n ≡ Ok work
number_read (Ok m) work h = ap (λ (w : List ℕ). let r : Result (List ℕ) IdFault = Ok w in r) (sym (same h))
  where
    same : ◌≡◌ {A = Option (List ℕ)} (Some work) (Some m) → work ≡ m
    same e = cc
number_read (Err fault) work h = absurd (none h)
  where
    none : ◌≡◌ {A = Option (List ℕ)} (Some work) None → ⊥
    none e = cc

-- whether a recording is among some
abbrev pub is_among : List ℕ → List (List ℕ) → Bool
is_among x named = list_any (bytes_eq x) named

-- a recording that is none of these, or is listed already, changes nothing
pub listed_still : (of_these : List ℕ → Bool) (named listed : List (List ℕ)) (i : List ℕ) → (of_these i ≡ true → is_among i named ≡ true) → ListsOnce of_these named listed → ListsOnce of_these (named ++ i ∷ []) listed
listed_still of_these named listed i known before x is =
    before x is ∙ ap (λ (b : Bool). cond b (x ∷ []) []) (sym (list_any-append (bytes_eq x) named (i ∷ []) ∙ by_case (bytes_eq x i) refl (is_among x named) refl))
  where
    by_case : (b : Bool) → bytes_eq x i ≡ b → (r : Bool) → is_among x named ≡ r → (r || (b || false)) ≡ is_among x named
    by_case b same true there = sym there
    by_case false same false there = sym there
    by_case true same false there =
        let one : x ≡ i = same_bytes x i same in
        sym (ap (λ (y : List ℕ). is_among y named) one ∙ known (ap of_these (sym one) ∙ is))

or_none : (b : Bool) → (b || false) ≡ b
or_none true = refl
or_none false = refl

-- one of these that was not named before is listed behind
pub listed_more : (of_these : List ℕ → Bool) (named listed : List (List ℕ)) (i : List ℕ) → is_among i named ≡ false → ListsOnce of_these named listed → ListsOnce of_these (named ++ i ∷ []) (listed ++ i ∷ [])
listed_more of_these named listed i fresh before x is =
    filter-append (λ one. bytes_eq one x) listed (i ∷ [])
    ∙ ap (λ (is : List (List ℕ)). is ++ cond (bytes_eq i x) (i ∷ []) []) (before x is)
    ∙ by_case (bytes_eq x i) refl (is_among x named) refl
    ∙ ap (λ (b : Bool). cond b (x ∷ []) []) (sym (list_any-append (bytes_eq x) named (i ∷ [])))
  where
    by_case : (b : Bool) → bytes_eq x i ≡ b → (r : Bool) → is_among x named ≡ r → cond (is_among x named) (x ∷ []) [] ++ cond (bytes_eq i x) (i ∷ []) [] ≡ cond (is_among x named || (bytes_eq x i || false)) (x ∷ []) []
    by_case true same true there =
        let one : x ≡ i = same_bytes x i same in
        absurd (false≢true (sym fresh ∙ ap (λ (y : List ℕ). is_among y named) (sym one) ∙ there))
    by_case true same false there =
        let one : x ≡ i = same_bytes x i same in
        ap (λ (b : Bool). cond b (x ∷ []) [] ++ cond (bytes_eq i x) (i ∷ []) []) there
        ∙ ap (λ (b : Bool). cond b (i ∷ []) []) (turned i x ∙ same)
        ∙ ap (λ (y : List ℕ). y ∷ []) (sym one)
        ∙ sym (ap (λ (b : Bool). cond (b || (bytes_eq x i || false)) (x ∷ []) []) there ∙ ap (λ (b : Bool). cond (b || false) (x ∷ []) []) same)
    by_case false same r there =
        ap (λ (b : Bool). cond (is_among x named) (x ∷ []) [] ++ cond b (i ∷ []) []) (turned i x ∙ same)
        ∙ append-nil (cond (is_among x named) (x ∷ []) [])
        ∙ ap (λ (b : Bool). cond b (x ∷ []) []) (sym (ap (λ (b : Bool). is_among x named || (b || false)) same ∙ or_none (is_among x named)))

-- one element more at the end of a numbered list
pub enumerate_push : {X : Type 0} (n : ℕ) (xs : List X) (x : X) → enumerate_from n (xs ++ x ∷ []) ≡ enumerate_from n xs ++ (n + length xs, x) ∷ []
enumerate_push n [] x = ap (λ (k : ℕ). (k, x) ∷ []) (omega arith)
enumerate_push n (y ∷ ys) x = ap (λ r. (n, y) ∷ r) (enumerate_push (n + 1) ys x ∙ ap (λ (k : ℕ). enumerate_from (n + 1) ys ++ (k, x) ∷ []) (omega arith))

-- one transaction more
pub versions_push : (office : Office) (book : Book) (key : TransmissionKey) (number : ℕ) (ts : List Transaction) (t : Transaction) →
    versions_of_transmission office book key number (ts ++ t ∷ []) ≡ versions_of_transmission office book key number ts ++ work_where (is_version_at office book key number (length ts) (number_of_work t)) key.sender t
versions_push office book key number ts t =
    let passes = λ (p : ℕ × Transaction). is_version_at office book key number p.0 (number_of_work p.1) in
    let shown = λ (p : ℕ × Transaction). cut_work key.sender p.1 in
    let count : 0 + length ts ≡ length ts = omega arith in
    ap (λ (ps : List (ℕ × Transaction)). map shown (filter passes ps)) (enumerate_push 0 ts t ∙ ap (λ (k : ℕ). enumerate_from 0 ts ++ (k, t) ∷ []) count)
    ∙ ap (map shown) (filter-append passes (enumerate_from 0 ts) ((length ts, t) ∷ []))
    ∙ map-append shown (filter passes (enumerate_from 0 ts)) (filter passes ((length ts, t) ∷ []))
    ∙ ap (λ (ws : List CutWork). map shown (filter passes (enumerate_from 0 ts)) ++ ws) (by_case (is_version_at office book key number (length ts) (number_of_work t)))
  where
    by_case : (b : Bool) → map (λ (p : ℕ × Transaction). cut_work key.sender p.1) (cond b ((length ts, t) ∷ []) []) ≡ work_where b key.sender t
    by_case true = refl
    by_case false = refl

-- the versions of a sender's works at its cut, of its transmissions under some numbers
abbrev pub versions_over : Office → Book → TransmissionKey → List ℕ → List CutWork
versions_over office book key ns =
    flat_map (λ (sent : NumberedTransmission). versions_of_transmission office book key sent.0 (transactions_of sent.1)) (map (sent_under book key.sender) ns)

-- one number more
pub versions_over_push : (office : Office) (book : Book) (key : TransmissionKey) (ns : List ℕ) (n : ℕ) →
    versions_over office book key (ns ++ n ∷ []) ≡ versions_over office book key ns ++ versions_of_transmission office book key n (transactions_sent book key.sender n)
versions_over_push office book key ns n =
    let last = sent_under book key.sender n in
    let f = λ (sent : NumberedTransmission). versions_of_transmission office book key sent.0 (transactions_of sent.1) in
    ap (flat_map f) (map_push (sent_under book key.sender) ns n)
    ∙ flat_map-append f (map (sent_under book key.sender) ns) (last ∷ [])
    ∙ ap (λ (ws : List CutWork). versions_over office book key ns ++ ws) (append-nil (f last))

-- one sender more
pub works_push : (office : Office) (book : Book) (keys : List TransmissionKey) (key : TransmissionKey) →
    flat_map (versions_at_cut office book) (keys ++ key ∷ []) ≡ flat_map (versions_at_cut office book) keys ++ versions_at_cut office book key
works_push office book keys key =
    flat_map-append (versions_at_cut office book) keys (key ∷ [])
    ∙ ap (λ (ws : List CutWork). flat_map (versions_at_cut office book) keys ++ ws) (append-nil (versions_at_cut office book key))

verdicts_counted : (past js : List Judged) → length (verdicts_from past js) ≡ length js
verdicts_counted past [] = refl
verdicts_counted past (j ∷ js) = ap suc (verdicts_counted (j ∷ past) js)

judged_counted : (office : Office) (t : Transmission) → length (judged_in office t) ≡ length (transactions_of t)
unfolding judged_in
judged_counted office t = length-map (transactions_of t) (judged office)

-- the verdicts under a number are as many as what is judged there
counted_behind : (past : List Judged) (number count : ℕ) (line : List JudgedTransmission) → AllByRecursion (λ (x : JudgedTransmission). x.number ≡ number → length x.judged ≡ count) line → has_number number line ≡ true → length (verdicts_behind past number line) ≡ count
counted_behind past number count [] all has = absurd (false≢true has)
counted_behind past number count (x ∷ line) all has =
    let choose = λ (b : Bool). length (cond b (verdicts_from past x.judged) (verdicts_behind (behind past x.judged) number line)) in
    ⊎_elim
    (λ (same : ((x.number == number) ≡ true) × (x.number ≡ number)). ap choose same.0 ∙ verdicts_counted past x.judged ∙ all.0 same.1)
    (λ (apart : ((x.number == number) ≡ false) × (x.number ≢ number)). ap choose apart.0 ∙ counted_behind (behind past x.judged) number count line all.1 (sym (ap (λ (b : Bool). b || has_number number line) apart.0) ∙ has))
    (eqb_tells x.number number)

-- what holds of two lists holds of one and the other
pub all_append : {X : Type 0} (P : X → Type 0) (xs ys : List X) → AllByRecursion P xs → AllByRecursion P ys → AllByRecursion P (xs ++ ys)
all_append P [] ys a b = b
all_append P (x ∷ xs) ys a b = (a.0, all_append P xs ys a.1 b)

-- what is judged under a number of a line is as much as the transactions there
counted_over : (office : Office) (book : Book) (sender : List ℕ) (number : ℕ) (ns : List ℕ) → AllByRecursion (λ (x : JudgedTransmission). x.number ≡ number → length x.judged ≡ length (transactions_sent book sender number)) (line_over office book sender ns)
counted_over office book sender number [] = tt
counted_over office book sender number (n ∷ ns) =
    (λ same. judged_counted office (transmission_in (unwrap_or (body_at book sender n) [])) ∙ ap (λ (k : ℕ). length (transactions_sent book sender k)) same, counted_over office book sender number ns)

-- as many verdicts as transactions
pub verdicts_counted_in : (office : Office) (book : Book) (sender : List ℕ) (n k : ℕ) → is_one_of (numbers_to book sender n) k ≡ true → length (verdicts_at (line_of office (transmissions_to book sender n)) k) ≡ length (transactions_sent book sender k)
unfolding verdicts_at
verdicts_counted_in office book sender n k is =
    counted_behind [] k (length (transactions_sent book sender k)) (line_to office book sender n) (counted_over office book sender k (numbers_to book sender n)) (line_has_one office book sender n k is)

-- one key more in a set of those that were named
pub seen_more : (x i : List ℕ) (named : List (List ℕ)) (had : Bool) → had ≡ is_among x named → cond (eq_by_cmp bytes_cmp i x) true had ≡ is_among x (named ++ i ∷ [])
seen_more x i named had e =
    ap (λ (p : Bool). cond p true had) (is_eq-slice_cmp i x ∙ turned i x)
    ∙ ap (λ (p : Bool). cond (bytes_eq x i) true p) e
    ∙ by_case (bytes_eq x i) (is_among x named)
    ∙ sym (list_any-append (bytes_eq x) named (i ∷ []))
  where
    by_case : (p q : Bool) → cond p true q ≡ (q || (p || false))
    by_case true true = refl
    by_case true false = refl
    by_case false true = refl
    by_case false false = refl

-- one that is none of these, or was named already, changes nothing for them
pub seen_still : (of_these : List ℕ → Bool) (x i : List ℕ) (named : List (List ℕ)) → (of_these i ≡ true → is_among i named ≡ true) → of_these x ≡ true → is_among x named ≡ is_among x (named ++ i ∷ [])
seen_still of_these x i named known is = by_case (bytes_eq x i) refl ∙ sym (list_any-append (bytes_eq x) named (i ∷ []))
  where
    by_case : (b : Bool) → bytes_eq x i ≡ b → is_among x named ≡ (is_among x named || (bytes_eq x i || false))
    by_case true same =
        let one : x ≡ i = same_bytes x i same in
        let there : is_among x named ≡ true = ap (λ (y : List ℕ). is_among y named) one ∙ known (ap of_these (sym one) ∙ is) in
        there ∙ sym (ap (λ (q : Bool). q || (bytes_eq x i || false)) there)
    by_case false same = sym (ap (λ (p : Bool). is_among x named || (p || false)) same ∙ or_none (is_among x named))

-- of one that is due it is known that it is one of these and was not named, of one that is not that it was where it is one of these
pub due_is : (one had : Bool) → (one && not had) ≡ true → (one ≡ true) × (had ≡ false)
due_is true false e = (refl, refl)
due_is true true e = absurd (false≢true e)
due_is false had e = absurd (false≢true e)

pub not_due : (one had : Bool) → (one && not had) ≡ false → one ≡ true → had ≡ true
not_due true true e is = refl
not_due true false e is = absurd (false≢true (sym e))
not_due false had e is = absurd (false≢true is)

-- there is an element at a place within a list
pub no_place : {X : Type 0} (xs : List X) (k : ℕ) → k < length xs → slice_get xs k ≡ None → ⊥
no_place [] k h e = absurd (omega arith)
no_place (x ∷ xs) zero h e = cc
no_place (x ∷ xs) (suc k) h e = no_place xs k (omega arith) e

-- a version by its line
pub is_version_same : (office : Office) (book : Book) (key : TransmissionKey) (number place : ℕ) (r : Result (List ℕ) IdFault) → is_version_by (line_of office (transmissions_to book key.sender key.number)) key.number number place r ≡ is_version_at office book key number place r
is_version_same office book key number place (Ok work) = refl
is_version_same office book key number place (Err fault) = refl

-- what a test says of all holds at each place
pub all_at : {X : Type 0} (p : X → Bool) (xs : List X) (i : ℕ) (d : X) → list_all p xs ≡ true → i < length xs → p (get_or xs i d) ≡ true
all_at p [] i d e h = absurd (omega arith)
all_at p (x ∷ xs) zero d e h = (both (p x) (list_all p xs) e).0
all_at p (x ∷ xs) (suc i) d e h = all_at p xs i d (both (p x) (list_all p xs) e).1 (omega arith)

-- each number of an order's cut is in its sender's line
pub reached_at : (book : Book) (order : Order) (keys : List TransmissionKey) (i : ℕ) (key : TransmissionKey) → ReachesCut book order → keys ≡ order.cut → key ≡ get_or keys i key → i < length keys → is_applied book key ≡ true
reached_at book order keys i key reached same is h =
    ap (is_applied book) is ∙ all_at (is_applied book) keys i key (ap (list_all (is_applied book)) same ∙ reached) h
