-- Of the transmissions up to a cut only those add candidates that have a version that is chosen.
use Rattle.std.proofs.Common.{◌≡◌, ◌∙◌, ◌<◌, ◌++◌, ◌&&◌, ◌||◌, ◌==◌, ℕ, suc, zero, Bool, true, false, cond, List, [], ◌∷◌, ap, ap₂, arith, flat_map, get_or, length, refl, subst, sym}
use Rattle.std.proofs.lemmas.Bool.Decides.{nat_tests}
use Rattle.std.proofs.lemmas.List.Kept.{IsStrictlySortedBy-filter}
use Rattle.std.proofs.lemmas.List.Elements.{filter-append}
use Rattle.std.specs.Cmp.{unsigned_Decides, unsigned_ties}
use Rattle.std.specs.List.{AllByRecursion, filter, list_any}
use Rattle.std.specs.List.Sorted.{IsStrictlySortedBy}
use Rattle.std.specs.Ordering.{eq_by_cmp, nat_cmp}
use Rattle.share_rules.specs.declared.office.Office.{Office}
use Rattle.cwr_files.specs.Contents.{transactions_of}
use Rattle.society_core.proofs.lemmas.LineNumbers.{is_first, is_later, numbers_to_ascend, one_that_passes, sorted_same}
use Rattle.society_core.specs.Book.{Book, is_one_of, numbers_to, sent_under}
use Rattle.society_core.specs.Candidates.{AddsCandidates, transactions_sent}
use Rattle.society_core.specs.Owners.{CutWork, names_recording, versions_at_cut, versions_of_transmission}
use Rattle.society_core.specs.declared.claim_list.Candidate.{Candidate}
use Rattle.society_core.specs.declared.transmission_key.TransmissionKey.{TransmissionKey}
use Rattle.society_closings.specs.CutWorks.{ChoosesNaming}
use Rattle.society_closings.specs.declared.chosen.Chosen.{Chosen}
use Rattle.society_closings.proofs.lemmas.cuts.CutCandidates.{absent_names, adds_alike}
use Rattle.sqlite_keyed.proofs.ListLemmas.{flat_map-map}
use Rattle.works_core.specs.Line.{NumberedTransmission}
use Rattle.share_rules.specs.declared.holder.Holder.{Holder}
use Rattle.std.proofs.lemmas.Bool.{or_right}
use Rattle.society_book.proofs.lemmas.rows_alike.RowLemmas.{any_same}

-- ---- the numbers of a list that stand in another

-- whether a number stands in a list
abbrev pub is_in : ℕ → List ℕ → Bool
is_in n ks = list_any (λ k. eq_by_cmp nat_cmp n k) ks

in_is : (n : ℕ) (ks : List ℕ) → is_in n ks ≡ is_one_of ks n
in_is n ks = any_same (λ k. eq_by_cmp nat_cmp n k) (λ k. k == n) (tie n) ks
  where
    tie : (a b : ℕ) → eq_by_cmp nat_cmp a b ≡ (b == a)
    tie a b = grind (arith, nat_tests)

module _ {X : Type 0} (f : ℕ → List X) where
  given_where : (passes : ℕ → Bool) (ns : List ℕ) → ((n : ℕ) → is_one_of ns n ≡ true → passes n ≡ false → f n ≡ []) → flat_map f (filter passes ns) ≡ flat_map f ns
  given_where passes [] none = refl
  given_where passes (n ∷ ns) none = by_case (passes n) refl (given_where passes ns (λ k one. none k (is_later n k ns one)))
    where
      by_case : (c : Bool) → passes n ≡ c → flat_map f (filter passes ns) ≡ flat_map f ns → flat_map f (cond c (n ∷ filter passes ns) (filter passes ns)) ≡ f n ++ flat_map f ns
      by_case true is later = ap (λ (xs : List X). f n ++ xs) later
      by_case false is later = later ∙ ap (λ (xs : List X). xs ++ flat_map f ns) (sym (none n (is_first n ns) is))

  -- where every other number of a list gives nothing, these give what all of it gives
  given_by : (ns ks : List ℕ) → IsStrictlySortedBy nat_cmp ns → IsStrictlySortedBy nat_cmp ks → ((n : ℕ) → is_one_of ks n ≡ true → is_one_of ns n ≡ true)
      → ((n : ℕ) → is_one_of ns n ≡ true → is_one_of ks n ≡ false → f n ≡ []) → flat_map f ks ≡ flat_map f ns
  given_by ns ks all_sorted sorted among none =
      ap (flat_map f) (sorted_same ks (filter (is_one_of ks) ns) sorted (IsStrictlySortedBy-filter nat_cmp (is_one_of ks) ns all_sorted) (λ n. by_case n (is_one_of ks n) refl ∙ sym (one_that_passes (is_one_of ks) n ns)))
      ∙ given_where (is_one_of ks) ns none
    where
      by_case : (n : ℕ) (c : Bool) → is_one_of ks n ≡ c → c ≡ (is_one_of ks n && is_one_of ns n)
      by_case n true is = sym (ap₂ (λ x y. x && y) is (among n is))
      by_case n false is = sym (ap (λ x. x && is_one_of ns n) is)

-- those that pass of what is given
passing_each : {A X : Type 0} (p : X → Bool) (f : A → List X) (list : List A) → filter p (flat_map f list) ≡ flat_map (λ a. filter p (f a)) list
passing_each p f [] = refl
passing_each p f (a ∷ list) = filter-append p (f a) (flat_map f list) ∙ ap (λ xs. filter p (f a) ++ xs) (passing_each p f list)

-- what holds of each number in a list holds of all of it
all_in : (P : ℕ → Type 0) (ks : List ℕ) → ((n : ℕ) → is_in n ks ≡ true → P n) → AllByRecursion P ks
all_in P [] each = tt
all_in P (k ∷ ks) each = (each k (ap (λ (c : Bool). c || is_in k ks) (sym (unsigned_ties k k) ∙ (unsigned_Decides k k).1 refl)), all_in P ks (λ n there. each n (ap (λ (c : Bool). eq_by_cmp nat_cmp n k || c) there ∙ or_right (eq_by_cmp nat_cmp n k) true refl)))

-- and of the one at a place of it
all_get : (P : ℕ → Type 0) (ks : List ℕ) (i n : ℕ) → AllByRecursion P ks → n ≡ get_or ks i n → i < length ks → P n
all_get P [] i n all is there = absurd (omega (arith, there))
all_get P (k ∷ ks) zero n all is there = subst P (sym is) all.0
all_get P (k ∷ ks) (suc i) n all is there = all_get P ks i n all.1 is (omega (arith, there))

-- ---- the versions of the transmissions of a set

-- the versions of a sender's works at its cut that stand in these transmissions
abbrev pub versions_in : Office → Book → TransmissionKey → List ℕ → List CutWork
versions_in office book key numbers = flat_map (λ n. versions_of_transmission office book key n (transactions_sent book key.sender n)) numbers

-- those of all transmissions up to the cut
versions_up_to : (office : Office) (book : Book) (key : TransmissionKey) → versions_at_cut office book key ≡ versions_in office book key (numbers_to book key.sender key.number)
versions_up_to office book key = flat_map-map (λ (sent : NumberedTransmission). versions_of_transmission office book key sent.0 (transactions_of sent.1)) (sent_under book key.sender) (numbers_to book key.sender key.number)

-- what is added for the transmissions that are chosen is added for the versions at the cut
pub set_adds : (weigh : CutWork → List Holder) (office : Office) (book : Book) (key : TransmissionKey) (of_these : List ℕ → Bool) (chosen : Chosen) → ChoosesNaming office book key of_these chosen → IsStrictlySortedBy nat_cmp chosen.transmissions.keys
    → (old new : List Candidate) → AddsCandidates weigh of_these (versions_in office book key chosen.transmissions.keys) old new → AddsCandidates weigh of_these (versions_at_cut office book key) old new
set_adds weigh office book key of_these chosen right sorted old new =
    adds_alike weigh of_these (versions_in office book key ks) (versions_at_cut office book key) old new
    (λ isrc is.
    passing_each (names_recording isrc) f ks
    ∙ given_by (λ n. filter (names_recording isrc) (f n)) ns ks (numbers_to_ascend book key.sender key.number) sorted (λ n there. right.within n (in_is n ks ∙ there))
    (λ n one absent. absent_names office book key of_these chosen right n one (in_is n ks ∙ absent) isrc is)
    ∙ sym (passing_each (names_recording isrc) f ns)
    ∙ ap (filter (names_recording isrc)) (sym (versions_up_to office book key)))
  where
    ks : List ℕ
    ks = chosen.transmissions.keys

    ns : List ℕ
    ns = numbers_to book key.sender key.number

    f : ℕ → List CutWork
    f = λ n. versions_of_transmission office book key n (transactions_sent book key.sender n)

-- each number that is listed is one of the line up to the cut
pub listed_within : (office : Office) (book : Book) (key : TransmissionKey) (of_these : List ℕ → Bool) (chosen : Chosen) → ChoosesNaming office book key of_these chosen
    → (listed : List ℕ) (i n : ℕ) → listed ≡ chosen.transmissions.keys → n ≡ get_or listed i n → i < length listed → is_one_of (numbers_to book key.sender key.number) n ≡ true
listed_within office book key of_these chosen right listed i n same is there =
    all_get P listed i n (subst (AllByRecursion P) (sym same) (all_in P chosen.transmissions.keys (λ k found. right.within k found))) is there
  where
    P : ℕ → Type 0
    P k = is_one_of (numbers_to book key.sender key.number) k ≡ true
