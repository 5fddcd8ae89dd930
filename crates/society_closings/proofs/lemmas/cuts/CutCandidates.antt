-- Candidates of the works that are chosen stand for the versions at a cut.
use Rattle.std.proofs.Common.{◌≡◌, ◌∙◌, ◌+◌, ◌++◌, ℕ, suc, Bool, true, false, cond, List, [], ◌∷◌, Option, Some, None, Result, Ok, Err, length, refl, ap, ap₂, append_assoc, ◌==◌, sym, subst, arith, map, slice_get, IfOk, OnOk}
use Rattle.std.proofs.lemmas.Bool.{false≢true}
use Rattle.std.proofs.lemmas.List.Elements.{filter-append}
use Rattle.std.specs.BTreeSet.{contains}
use Rattle.std.specs.Cmp.{unsigned_Decides}
use Rattle.std.specs.List.{enumerate_from, filter}
use Rattle.std.specs.Ordering.{nat_cmp}
use Rattle.cwr_files.specs.Transaction.{number_of_work}
use Rattle.cwr_files.specs.declared.transmission.Transaction.{Transaction}
use Rattle.share_rules.specs.declared.office.Office.{Office}
use Rattle.society_core.proofs.lemmas.CandidateLemmas.{both}
use Rattle.society_core.specs.Book.{Book, is_one_of, numbers_to}
use Rattle.society_core.specs.Candidates.{AddsCandidates, claimant_by, transactions_sent, work_where}
use Rattle.society_core.specs.Owners.{CutWork, cut_work, is_at, is_version_at, names_recording, versions_of_transmission}
use Rattle.society_core.specs.declared.claim_list.Candidate.{Candidate}
use Rattle.society_core.specs.declared.transmission_key.TransmissionKey.{TransmissionKey}
use Rattle.society_rows.specs.declared.fault.RowFault.{RowFault}
use Rattle.society_book.specs.Shown.{ShowBody}
use Rattle.sqlite_value.specs.Order.{Row}
use Rattle.society_closings.specs.CutWorks.{ChoosesNaming, chosen_at, is_chosen, works_chosen}
use Rattle.society_closings.specs.declared.chosen.Chosen.{Chosen}
use Rattle.work_ids.specs.declared.fault.IdFault.{IdFault}
use Rattle.works_core.specs.declared.version.WorkVersion.{WorkVersion}
use Rattle.share_rules.specs.declared.holder.Holder.{Holder}

-- works of which the same ones name each of these recordings are added alike
pub adds_alike : (weigh : CutWork → List Holder) (of_these : List ℕ → Bool) (more others : List CutWork) (old new : List Candidate) → ((isrc : List ℕ) → of_these isrc ≡ true → filter (names_recording isrc) more ≡ filter (names_recording isrc) others) → AddsCandidates weigh of_these more old new → AddsCandidates weigh of_these others old new
adds_alike weigh of_these more others old new same adds = λ works stand. record {
  same = λ isrc is.
      (adds works stand).same isrc is
      ∙ ap (map (claimant_by weigh)) (filter-append (names_recording isrc) works more ∙ ap (λ (ws : List CutWork). filter (names_recording isrc) works ++ ws) (same isrc is) ∙ sym (filter-append (names_recording isrc) works others));
}

-- transactions of a sender that pass by their places, as works
abbrev pub works_where : (ℕ → Transaction → Bool) → List ℕ → ℕ → List Transaction → List CutWork
works_where passes sender place transactions = map (λ placed. cut_work sender placed.1) (filter (λ placed. passes placed.0 placed.1) (enumerate_from place transactions))

module _ (sender : List ℕ) where
  -- one that passes, and then the others
  pub where_more : (passes : ℕ → Transaction → Bool) (place : ℕ) (t : Transaction) (ts : List Transaction) → works_where passes sender place (t ∷ ts) ≡ work_where (passes place t) sender t ++ works_where passes sender (place + 1) ts
  where_more passes place t ts = by_case (passes place t)
    where
      by_case : (c : Bool) → map (λ (placed : ℕ × Transaction). cut_work sender placed.1) (cond c ((place, t) ∷ filter (λ placed. passes placed.0 placed.1) (enumerate_from (place + 1) ts)) (filter (λ placed. passes placed.0 placed.1) (enumerate_from (place + 1) ts))) ≡ work_where c sender t ++ works_where passes sender (place + 1) ts
      by_case true = refl
      by_case false = refl

  -- transactions behind others
  pub where_append : (passes : ℕ → Transaction → Bool) (place : ℕ) (xs ys : List Transaction) → works_where passes sender place (xs ++ ys) ≡ works_where passes sender place xs ++ works_where passes sender (place + length xs) ys
  where_append passes place [] ys = ap (λ (n : ℕ). works_where passes sender n ys) (let e : place ≡ place + 0 = omega arith in e)
  where_append passes place (x ∷ xs) ys =
      where_more passes place x (xs ++ ys)
      ∙ ap (λ (ws : List CutWork). work_where (passes place x) sender x ++ ws) (where_append passes (place + 1) xs ys ∙ ap (λ (n : ℕ). works_where passes sender (place + 1) xs ++ works_where passes sender n ys) (let e : place + 1 + length xs ≡ place + suc (length xs) = omega arith in e))
      ∙ sym (append_assoc (work_where (passes place x) sender x) (works_where passes sender (place + 1) xs) (works_where passes sender (place + suc (length xs)) ys))
      ∙ ap (λ (ws : List CutWork). ws ++ works_where passes sender (place + suc (length xs)) ys) (sym (where_more passes place x xs))

  -- where what names a recording passes alike, the same ones name it
  pub where_alike : (p q : ℕ → Transaction → Bool) (isrc : List ℕ) (place : ℕ) (ts : List Transaction) → ((i : ℕ) (t : Transaction) → slice_get ts i ≡ Some t → names_recording isrc (cut_work sender t) ≡ true → p (place + i) t ≡ q (place + i) t) → filter (names_recording isrc) (works_where p sender place ts) ≡ filter (names_recording isrc) (works_where q sender place ts)
  where_alike p q isrc place [] same = refl
  where_alike p q isrc place (t ∷ ts) same =
      ap (filter (names_recording isrc)) (where_more p place t ts)
      ∙ filter-append (names_recording isrc) (work_where (p place t) sender t) (works_where p sender (place + 1) ts)
      ∙ ap₂ ◌++◌ (first (names_recording isrc (cut_work sender t)) refl) (where_alike p q isrc (place + 1) ts later)
      ∙ sym (filter-append (names_recording isrc) (work_where (q place t) sender t) (works_where q sender (place + 1) ts))
      ∙ ap (filter (names_recording isrc)) (sym (where_more q place t ts))
    where
      later : (i : ℕ) (x : Transaction) → slice_get ts i ≡ Some x → names_recording isrc (cut_work sender x) ≡ true → p (place + 1 + i) x ≡ q (place + 1 + i) x
      later i x there names =
          let next : place + suc i ≡ place + 1 + i = omega arith in
          subst (λ (n : ℕ). p n x ≡ q n x) next (same (suc i) x there names)

      unnamed : (c : Bool) → names_recording isrc (cut_work sender t) ≡ false → filter (names_recording isrc) (work_where c sender t) ≡ []
      unnamed true e = ap (λ (b : Bool). cond b (cut_work sender t ∷ []) []) e
      unnamed false e = refl

      first : (n : Bool) → names_recording isrc (cut_work sender t) ≡ n → filter (names_recording isrc) (work_where (p place t) sender t) ≡ filter (names_recording isrc) (work_where (q place t) sender t)
      first true e =
          let here : place + 0 ≡ place = omega arith in
          ap (λ (c : Bool). filter (names_recording isrc) (work_where c sender t)) (subst (λ (n : ℕ). p n t ≡ q n t) here (same 0 t refl e))
      first false e = unnamed (p place t) e ∙ sym (unnamed (q place t) e)

  -- nothing passes
  pub where_none : (passes : ℕ → Transaction → Bool) (place : ℕ) (ts : List Transaction) → ((n : ℕ) (t : Transaction) → passes n t ≡ false) → works_where passes sender place ts ≡ []
  where_none passes place [] none = refl
  where_none passes place (t ∷ ts) none = where_more passes place t ts ∙ ap₂ (λ (c : Bool) (ws : List CutWork). work_where c sender t ++ ws) (none place t) (where_none passes (place + 1) ts none)

-- no transaction is chosen of a transmission that is none of those of the versions
pub none_chosen : (chosen : Chosen) (sender : List ℕ) (number : ℕ) (ts : List Transaction) → ((work : List ℕ) (version : WorkVersion) → chosen_at chosen work ≡ Some version → contains nat_cmp chosen.transmissions version.transmission ≡ true) → contains nat_cmp chosen.transmissions number ≡ false → works_chosen chosen sender number 0 ts ≡ []
none_chosen chosen sender number ts covered absent = where_none sender (λ place t. is_chosen chosen number place (number_of_work t)) 0 ts (λ place t. by_number place (number_of_work t))
  where
    by_version : (place : ℕ) (work : List ℕ) (v : Option WorkVersion) → chosen_at chosen work ≡ v → (c : Bool) → is_at number place v ≡ c → c ≡ false
    by_version place work v is false e = refl
    by_version place work None is true e = absurd (false≢true e)
    by_version place work (Some v) is true e =
        let same : v.transmission ≡ number = (unsigned_Decides v.transmission number).0 (both (v.transmission == number) (v.place == place) e).0 in
        absurd (false≢true (sym absent ∙ ap (contains nat_cmp chosen.transmissions) (sym same) ∙ covered work v is))

    by_number : (place : ℕ) (r : Result (List ℕ) IdFault) → is_chosen chosen number place r ≡ false
    by_number place (Ok work) = by_version place work (chosen_at chosen work) refl (is_at number place (chosen_at chosen work)) refl
    by_number place (Err fault) = refl

module _ (office : Office) (book : Book) (key : TransmissionKey) (of_these : List ℕ → Bool) (chosen : Chosen) (right : ChoosesNaming office book key of_these chosen) where
  -- of a transmission's transactions that are chosen and of its versions at the cut the same ones name each of these recordings
  chosen_names : (number : ℕ) → is_one_of (numbers_to book key.sender key.number) number ≡ true → (isrc : List ℕ) → of_these isrc ≡ true
      → filter (names_recording isrc) (works_chosen chosen key.sender number 0 (transactions_sent book key.sender number)) ≡ filter (names_recording isrc) (versions_of_transmission office book key number (transactions_sent book key.sender number))
  chosen_names number within isrc is =
      where_alike key.sender (λ place t. is_chosen chosen number place (number_of_work t)) (λ place t. is_version_at office book key number place (number_of_work t)) isrc 0 (transactions_sent book key.sender number)
      (λ i t there names. let here : i ≡ 0 + i = omega arith in subst (λ (n : ℕ). is_chosen chosen number n (number_of_work t) ≡ is_version_at office book key number n (number_of_work t)) here (right.right number i t isrc within there is names))

  -- what is chosen of a transmission is added as its versions at the cut
  pub chosen_adds : (weigh : CutWork → List Holder) (number : ℕ) (old new : List Candidate) → is_one_of (numbers_to book key.sender key.number) number ≡ true → AddsCandidates weigh of_these (works_chosen chosen key.sender number 0 (transactions_sent book key.sender number)) old new → AddsCandidates weigh of_these (versions_of_transmission office book key number (transactions_sent book key.sender number)) old new
  chosen_adds weigh number old new within adds =
      adds_alike weigh of_these (works_chosen chosen key.sender number 0 (transactions_sent book key.sender number)) (versions_of_transmission office book key number (transactions_sent book key.sender number)) old new
      (chosen_names number within)
      adds

  -- none of its versions names one of them where none of its transactions is chosen
  pub absent_names : (number : ℕ) → is_one_of (numbers_to book key.sender key.number) number ≡ true → contains nat_cmp chosen.transmissions number ≡ false → (isrc : List ℕ) → of_these isrc ≡ true → filter (names_recording isrc) (versions_of_transmission office book key number (transactions_sent book key.sender number)) ≡ []
  absent_names number within absent isrc is =
      sym (chosen_names number within isrc is)
      ∙ ap (filter (names_recording isrc)) (none_chosen chosen key.sender number (transactions_sent book key.sender number) right.transmissions absent)

-- what follows of whatever rows show follows of an answer as a whole
pub shown_all : (r : Result (Unit {0}) RowFault) (rows : List Row) (P : Option (List ℕ) → Type 0) → ((kept : Option (List ℕ)) → ShowBody kept rows → OnOk r (P kept)) → IfOk r (λ _. (kept : Option (List ℕ)) → ShowBody kept rows → P kept)
shown_all (Err fault) rows P h = tt
shown_all (Ok x) rows P h = h
