-- A work owns a recording exactly where it is the only one whose version at the cut names it.
use Rattle.std.proofs.Common.{◌≡◌, ◌⊎◌, inl, inr, ℕ, zero, suc, ◌+◌, ◌≤◌, ◌==◌, ◌&&◌, ◌||◌, Bool, true, false, cond, List, [], ◌∷◌, ◌++◌, map, flat_map, Option, Some, None, Result, Ok, Err, is_none, slice_get, unwrap_or, refl, ap, ap₂, sym, subst, ◌∙◌, arith}
use Rattle.std.specs.Prelude.{◌↔◌, Any, ⊤}
use Rattle.std.specs.Cmp.{unsigned_Decides}
use Rattle.std.specs.List.Sorted.{IsStrictlySortedBy}
use Rattle.std.specs.Ordering.{nat_cmp}
use Rattle.std.specs.declared.cmp.Ordering.TheVariants.{Less}
use Rattle.std.proofs.lemmas.Bool.Decides.{nat_tests}
use Rattle.std.specs.List.{AllByRecursion, enumerate_from, filter, list_any}
use Rattle.std.specs.Result.{result_ok}
use Rattle.std.specs.Str.{bytes_eq}
use Rattle.std.proofs.lemmas.Bool.{false≢true}
use Rattle.std.proofs.lemmas.List.Folds.{list_any-append}
use Rattle.std.proofs.lemmas.Slice.Eq.{bytes_eq-Decides}
use Rattle.cwr_files.specs.Contents.{transmission_in}
use Rattle.cwr_files.specs.Transaction.{first_work, number_of_work, submitter_number}
use Rattle.cwr_files.specs.declared.transmission.Transaction.{Transaction}
use Rattle.share_rules.specs.Fault.{fault_of}
use Rattle.share_rules.specs.declared.office.Office.{Office}
use Rattle.work_ids.specs.declared.fault.IdFault.{IdFault}
use Rattle.works_core.specs.Line.{filled_number, judged, judged_by}
use Rattle.works_core.specs.Verdicts.{concerns}
use Rattle.works_core.specs.declared.version.WorkVersion.{WorkVersion}
use Rattle.works_core.proofs.lemmas.CleanLemmas.{clean_has_number, number_filled, number_there}
use Rattle.society_core.specs.Book.{Book, body_at, is_one_of, numbers_to, transaction_at, version_in}
use Rattle.society_core.specs.Candidates.{transactions_sent}
use Rattle.society_core.specs.Orders.{IsOrder, Order, has_repeat, is_out_of_range, is_too_long, names_twice, return_pair, same_numbered, same_sender, sent_pair}
use Rattle.society_core.specs.Owners.{CutWork, NamesAlone, NamesAt, NamesAtCut, Owns, cut_work, is_at, is_version_at, names_recording, sole, versions_at_cut, works_of_cut}
use Rattle.society_core.specs.declared.order_fault.OrderFault.TheVariants.{NamedTwice, OutOfRange, TooLong}
use Rattle.society_core.specs.declared.transmission_key.TransmissionKey.{TransmissionKey}
use Rattle.society_core.proofs.lemmas.CandidateLemmas.{all_append, both, versions_over}
use Rattle.society_core.proofs.lemmas.CreditLemmas.{filter_all, same_number, sent_clean, version_at_concerns}
use Rattle.society_core.proofs.lemmas.Fronts.{both_hold}
use Rattle.society_core.proofs.lemmas.Gaps.{version_in_line}
use Rattle.society_core.proofs.lemmas.LineNumbers.{is_first, is_later, numbers_to_ascend, one_of_all}
use Rattle.society_core.proofs.lemmas.OrderFaults.{neither_holds, told_none}

-- ---- some element of a list

-- P holds of some element
abbrev Some_of : {X : Type 0} → (X → Type 0) → List X → Type 0
Some_of P [] = ⊥
Some_of P (x ∷ xs) = P x ⊎ Some_of P xs

some_of : {X : Type 0} (P : X → Type 0) (xs : List X) → Any P xs → Some_of P xs
some_of P [] any = absurd (let h = any.2 in omega (h, arith))
some_of P (x ∷ xs) (zero, y, h, e, p) = inl (subst P (sym e) p)
some_of P (x ∷ xs) (suc k, y, h, e, p) = inr (some_of P xs (k, y, omega (h, arith), e, p))

any_of : {X : Type 0} (P : X → Type 0) (xs : List X) → Some_of P xs → Any P xs
any_of P [] none = absurd none
any_of P (x ∷ xs) (inl p) = (0, x, omega arith, refl, p)
any_of P (x ∷ xs) (inr more) = let rest = any_of P xs more in (suc rest.0, rest.1, (let h = rest.2 in omega (h, arith)), rest.3, rest.4)

some_as : {X : Type 0} (P Q : X → Type 0) (xs : List X) → ((x : X) → P x → Q x) → Some_of P xs → Some_of Q xs
some_as P Q [] f none = absurd none
some_as P Q (x ∷ xs) f (inl p) = inl (f x p)
some_as P Q (x ∷ xs) f (inr more) = inr (some_as P Q xs f more)

all_as : {X : Type 0} (P Q : X → Type 0) (xs : List X) → ((x : X) → P x → Q x) → AllByRecursion P xs → AllByRecursion Q xs
all_as P Q [] f all = tt
all_as P Q (x ∷ xs) f all = (f x all.0, all_as P Q xs f all.1)

all_pass : {X : Type 0} (p : X → Bool) (xs : List X) → AllByRecursion (λ x. p x ≡ true) (filter p xs)
all_pass p [] = tt
all_pass p (x ∷ xs) = by_case (p x) refl (all_pass p xs)
  where
    by_case : (b : Bool) → p x ≡ b → AllByRecursion (λ y. p y ≡ true) (filter p xs) → AllByRecursion (λ y. p y ≡ true) (cond b (x ∷ filter p xs) (filter p xs))
    by_case true is more = (is, more)
    by_case false is more = more

any_filtered : {X : Type 0} (p q : X → Bool) (xs : List X) → list_any (λ x. p x && q x) xs ≡ list_any q (filter p xs)
any_filtered p q [] = refl
any_filtered p q (x ∷ xs) = by_case (p x) (any_filtered p q xs)
  where
    by_case : (b : Bool) → list_any (λ y. p y && q y) xs ≡ list_any q (filter p xs) → ((b && q x) || list_any (λ y. p y && q y) xs) ≡ list_any q (cond b (x ∷ filter p xs) (filter p xs))
    by_case true e = ap (λ (t : Bool). q x || t) e
    by_case false e = e

either_first : (a b : Bool) → a ≡ true → (a || b) ≡ true
either_first true b e = refl
either_first false b e = absurd (false≢true e)

either_second : (a b : Bool) → b ≡ true → (a || b) ≡ true
either_second true b e = refl
either_second false b e = e

only_first : (a : Bool) → (a || false) ≡ true → a ≡ true
only_first true e = refl
only_first false e = absurd (false≢true e)

-- ---- works apart

-- the number of a work of the cut, nothing where its transaction has none, which is that of no version
abbrev number_or_none : Result (List ℕ) IdFault → List ℕ
number_or_none (Ok work) = work
number_or_none (Err fault) = []

abbrev work_of : CutWork → List ℕ
work_of w = number_or_none (number_of_work w.transaction)

-- two works are not the same work of one sender
abbrev Differs : CutWork → CutWork → Type 0
Differs a b = a.sender ≡ b.sender → work_of a ≡ work_of b → ⊥

-- each work stands once in a list
abbrev AreApart : List CutWork → Type 0
AreApart [] = ⊤
AreApart (w ∷ ws) = AllByRecursion (Differs w) ws × AreApart ws

apart_filtered : (p : CutWork → Bool) (ws : List CutWork) → AreApart ws → AreApart (filter p ws)
apart_filtered p [] apart = tt
apart_filtered p (w ∷ ws) apart = by_case (p w) (apart_filtered p ws apart.1)
  where
    by_case : (b : Bool) → AreApart (filter p ws) → AreApart (cond b (w ∷ filter p ws) (filter p ws))
    by_case true rest = (filter_all (Differs w) p ws apart.0, rest)
    by_case false rest = rest

apart_append : (us ws : List CutWork) → AreApart us → AreApart ws → AllByRecursion (λ u. AllByRecursion (Differs u) ws) us → AreApart (us ++ ws)
apart_append [] ws a b across = b
apart_append (u ∷ us) ws a b across = (all_append (Differs u) us ws a.0 across.0, apart_append us ws a.1 b across.1)

-- ---- the versions of a sender's works at its cut

module _ (office : Office) (book : Book) (key : TransmissionKey) where
  -- a work of the cut is that of a version, which is where the limits say
  record IsVersion (Limits : WorkVersion → Type 0) (w : CutWork) : Type 0 where
    sender : w.sender ≡ key.sender
    numbered : number_of_work w.transaction ≡ Ok (work_of w)
    version : WorkVersion
    its : version_in office book key.sender (work_of w) key.number ≡ Some version
    there : transaction_at book key.sender version.transmission version.place ≡ Some w.transaction
    within : Limits version

  version_as : (L M : WorkVersion → Type 0) → ((v : WorkVersion) → L v → M v) → (w : CutWork) → IsVersion L w → IsVersion M w
  version_as L M f w is = record { sender = is.sender; numbered = is.numbered; version = is.version; its = is.its; there = is.there; within = f is.version is.within }

  same_some : (v w : WorkVersion) → ◌≡◌ {A = Option WorkVersion} (Some v) (Some w) → v ≡ w
  same_some v w e = cc

  differ_by : (L M : WorkVersion → Type 0) → ((v : WorkVersion) → L v → M v → ⊥) → (a b : CutWork) → IsVersion L a → IsVersion M b → Differs a b
  differ_by L M never a b one other = λ senders works.
      let same : one.version ≡ other.version = same_some one.version other.version (sym one.its ∙ ap (λ (work : List ℕ). version_in office book key.sender work key.number) works ∙ other.its) in
      never other.version (subst L same one.within) other.within

  -- the place of one version
  abbrev At : ℕ → ℕ → WorkVersion → Type 0
  At number place v = (v.transmission ≡ number) × (v.place ≡ place)

  abbrev From : ℕ → ℕ → WorkVersion → Type 0
  From number place v = (v.transmission ≡ number) × (place ≤ v.place)

  -- a transaction that is the version of its work at the cut
  one_version : (number place : ℕ) (t : Transaction) → slice_get (transactions_sent book key.sender number) place ≡ Some t → is_version_at office book key number place (number_of_work t) ≡ true → IsVersion (At number place) (cut_work key.sender t)
  one_version number place t there is = by_work (number_of_work t) refl is
    where
      by_version : (work : List ℕ) (v : Option WorkVersion) → number_of_work t ≡ Ok work → version_in office book key.sender work key.number ≡ v → is_at number place v ≡ true → IsVersion (At number place) (cut_work key.sender t)
      by_version work None read e h = absurd (false≢true h)
      by_version work (Some v) read e h =
          let parts = both (v.transmission == number) (v.place == place) h in
          let at : (v.transmission ≡ number) × (v.place ≡ place) = (same_number v.transmission number parts.0, same_number v.place place parts.1) in
          record {
            sender = refl;
            numbered = read ∙ ap (λ (w : List ℕ). let r : Result (List ℕ) IdFault = Ok w in r) (sym (ap number_or_none read));
            version = v;
            its = ap (λ (r : Result (List ℕ) IdFault). version_in office book key.sender (number_or_none r) key.number) read ∙ e;
            there = ap₂ (λ (n k : ℕ). transaction_at book key.sender n k) at.0 at.1 ∙ there;
            within = at;
          }

      by_work : (r : Result (List ℕ) IdFault) → number_of_work t ≡ r → is_version_at office book key number place r ≡ true → IsVersion (At number place) (cut_work key.sender t)
      by_work (Ok work) read h = by_version work (version_in office book key.sender work key.number) read refl h
      by_work (Err fault) read h = absurd (false≢true h)

  -- the works of some transactions from a place on
  abbrev works_from : ℕ → ℕ → List Transaction → List CutWork
  works_from number place ts =
      map (λ (p : ℕ × Transaction). cut_work key.sender p.1) (filter (λ (p : ℕ × Transaction). is_version_at office book key number p.0 (number_of_work p.1)) (enumerate_from place ts))

  -- some transactions are those of a transmission from a place on
  abbrev AreFrom : ℕ → ℕ → List Transaction → Type 0
  AreFrom number place ts = (k : ℕ) (t : Transaction) → slice_get ts k ≡ Some t → slice_get (transactions_sent book key.sender number) (place + k) ≡ Some t

  from_next : (number place : ℕ) (t : Transaction) (ts : List Transaction) → AreFrom number place (t ∷ ts) → AreFrom number (place + 1) ts
  from_next number place t ts from = λ k x there.
      let next : place + suc k ≡ place + 1 + k = omega arith in
      subst (λ (i : ℕ). slice_get (transactions_sent book key.sender number) i ≡ Some x) next (from (suc k) x there)

  from_first : (number place : ℕ) (t : Transaction) (ts : List Transaction) → AreFrom number place (t ∷ ts) → slice_get (transactions_sent book key.sender number) place ≡ Some t
  from_first number place t ts from =
      let here : place + 0 ≡ place = omega arith in
      subst (λ (i : ℕ). slice_get (transactions_sent book key.sender number) i ≡ Some t) here (from 0 t refl)

  -- each is a version from that place on, and each work stands there once
  versions_from : (number place : ℕ) (ts : List Transaction) → AreFrom number place ts → AllByRecursion (IsVersion (From number place)) (works_from number place ts)
  versions_from number place [] from = tt
  versions_from number place (t ∷ ts) from =
      by_case (is_version_at office book key number place (number_of_work t)) refl
      (all_as (IsVersion (From number (place + 1))) (IsVersion (From number place)) (works_from number (place + 1) ts)
      (version_as (From number (place + 1)) (From number place) (λ v is. (is.0, (let h = is.1 in omega (h, arith)))))
      (versions_from number (place + 1) ts (from_next number place t ts from)))
    where
      by_case : (b : Bool) → is_version_at office book key number place (number_of_work t) ≡ b → AllByRecursion (IsVersion (From number place)) (works_from number (place + 1) ts) →
          AllByRecursion (IsVersion (From number place)) (map (λ (p : ℕ × Transaction). cut_work key.sender p.1) (cond b ((place, t) ∷ filter (λ (p : ℕ × Transaction). is_version_at office book key number p.0 (number_of_work p.1)) (enumerate_from (place + 1) ts)) (filter (λ (p : ℕ × Transaction). is_version_at office book key number p.0 (number_of_work p.1)) (enumerate_from (place + 1) ts))))
      by_case false is more = more
      by_case true is more = (
        version_as (At number place) (From number place) (λ v at. (at.0, (let h = at.1 in omega (h, arith)))) (cut_work key.sender t) (one_version number place t (from_first number place t ts from) is),
        more,
      )

  apart_from : (number place : ℕ) (ts : List Transaction) → AreFrom number place ts → AreApart (works_from number place ts)
  apart_from number place [] from = tt
  apart_from number place (t ∷ ts) from =
      by_case (is_version_at office book key number place (number_of_work t)) refl (apart_from number (place + 1) ts (from_next number place t ts from))
    where
      by_case : (b : Bool) → is_version_at office book key number place (number_of_work t) ≡ b → AreApart (works_from number (place + 1) ts) →
          AreApart (map (λ (p : ℕ × Transaction). cut_work key.sender p.1) (cond b ((place, t) ∷ filter (λ (p : ℕ × Transaction). is_version_at office book key number p.0 (number_of_work p.1)) (enumerate_from (place + 1) ts)) (filter (λ (p : ℕ × Transaction). is_version_at office book key number p.0 (number_of_work p.1)) (enumerate_from (place + 1) ts))))
      by_case false is rest = rest
      by_case true is rest = (
        all_as (IsVersion (From number (place + 1))) (Differs (cut_work key.sender t)) (works_from number (place + 1) ts)
            (λ other later. differ_by (At number place) (From number (place + 1)) (λ v at from_there. (let a = at.1 in let b = from_there.1 in absurd (omega (a, b, arith)))) (cut_work key.sender t) other
            (one_version number place t (from_first number place t ts from) is) later)
            (versions_from number (place + 1) ts (from_next number place t ts from)),
        rest,
      )

  all_sent : (number : ℕ) → AreFrom number 0 (transactions_sent book key.sender number)
  all_sent number = λ k t there.
      let same : 0 + k ≡ k = omega arith in
      subst (λ (i : ℕ). slice_get (transactions_sent book key.sender number) i ≡ Some t) (sym same) there

  -- a version is of a transmission under one of these numbers
  abbrev OneOf : List ℕ → WorkVersion → Type 0
  OneOf ns v = is_one_of ns v.transmission ≡ true

  -- the same of all transmissions under some numbers
  versions_all : (ns : List ℕ) → AllByRecursion (IsVersion (OneOf ns)) (versions_over office book key ns)
  versions_all [] = tt
  versions_all (n ∷ ns) =
      let sent = transactions_sent book key.sender n in
      all_append (IsVersion (OneOf (n ∷ ns))) (works_from n 0 sent) (versions_over office book key ns)
      (all_as (IsVersion (From n 0)) (IsVersion (OneOf (n ∷ ns))) (works_from n 0 sent) (version_as (From n 0) (OneOf (n ∷ ns)) (λ v is. ap (is_one_of (n ∷ ns)) is.0 ∙ is_first n ns)) (versions_from n 0 sent (all_sent n)))
      (all_as (IsVersion (OneOf ns)) (IsVersion (OneOf (n ∷ ns))) (versions_over office book key ns) (version_as (OneOf ns) (OneOf (n ∷ ns)) (λ v is. is_later n v.transmission ns is)) (versions_all ns))

  -- numbers that are sorted, each once, give works that stand apart
  apart_all : (ns : List ℕ) → IsStrictlySortedBy nat_cmp ns → AreApart (versions_over office book key ns)
  unfolding IsStrictlySortedBy
  apart_all [] sorted = tt
  apart_all (n ∷ ns) sorted =
      let sent = transactions_sent book key.sender n in
      apart_append (works_from n 0 sent) (versions_over office book key ns) (apart_from n 0 sent (all_sent n)) (apart_all ns sorted.1)
      (all_as (IsVersion (From n 0)) (λ a. AllByRecursion (Differs a) (versions_over office book key ns)) (works_from n 0 sent)
      (λ a first.
      all_as (IsVersion (OneOf ns)) (Differs a) (versions_over office book key ns)
      (λ b later. differ_by (From n 0) (OneOf ns) (λ v is one. behind v.transmission is.0 (one_of_all (λ m. nat_cmp n m ≡ Less) ns v.transmission sorted.0 one)) a b first later)
      (versions_all ns))
      (versions_from n 0 sent (all_sent n)))
    where
      behind : (m : ℕ) → m ≡ n → nat_cmp n m ≡ Less → ⊥
      behind m same less = grind (arith, nat_tests, same, less)

  -- ---- each version that there is stands among them

  -- the version of a work is a transaction with its number
  version_numbered : (work : List ℕ) (v : WorkVersion) (t : Transaction) → version_in office book key.sender work key.number ≡ Some v → transaction_at book key.sender v.transmission v.place ≡ Some t → number_of_work t ≡ Ok work
  version_numbered work v t its there = by_fault (fault_of office t) refl concerned
    where
      concerned : concerns work (judged office t) ≡ true
      concerned =
          ap (concerns work) (sym (sent_clean office (transmission_in (unwrap_or (body_at book key.sender v.transmission) [])) v.place t there))
          ∙ version_at_concerns office book key.sender work key.number v its

      by_number : (r : Result (List ℕ) IdFault) → number_of_work t ≡ r → fault_of office t ≡ None → bytes_eq (filled_number t) work ≡ true → number_of_work t ≡ Ok work
      by_number (Ok n) read none same =
          let filled : n ≡ filled_number t = number_filled (submitter_number (first_work t.records)) n (ap result_ok read) in
          read ∙ ap (λ (m : List ℕ). Ok m) (filled ∙ (bytes_eq-Decides (filled_number t) work).0 same)
      by_number (Err fault) read none same = absurd (number_there t (clean_has_number office t none) (ap result_ok read))

      by_fault : (f : Option ℕ) → fault_of office t ≡ f → concerns work (judged office t) ≡ true → number_of_work t ≡ Ok work
      by_fault None none is = by_number (number_of_work t) refl none (sym (ap (λ (f : Option ℕ). concerns work (judged_by t.kind (filled_number t) f)) none) ∙ is)
      by_fault (Some fault) some is = absurd (false≢true (sym (ap (λ (f : Option ℕ). concerns work (judged_by t.kind (filled_number t) f)) some) ∙ is))

  -- a transaction that is a version is among those from a place on
  found_from : (q : CutWork → Bool) (number place k : ℕ) (t : Transaction) (ts : List Transaction) → slice_get ts k ≡ Some t → is_version_at office book key number (place + k) (number_of_work t) ≡ true → q (cut_work key.sender t) ≡ true → list_any q (works_from number place ts) ≡ true
  found_from q number place k t [] there is passes = absurd (cc)
  found_from q number place zero t (x ∷ ts) there is passes =
      let same : x ≡ t = cc in
      let here : place + 0 ≡ place = omega arith in
      by_case (is_version_at office book key number place (number_of_work x))
      (ap₂ (λ (i : ℕ) (y : Transaction). is_version_at office book key number i (number_of_work y)) (sym here) same ∙ is)
      (ap (λ (y : Transaction). q (cut_work key.sender y)) same ∙ passes)
    where
      by_case : (b : Bool) → b ≡ true → q (cut_work key.sender x) ≡ true →
          list_any q (map (λ (p : ℕ × Transaction). cut_work key.sender p.1) (cond b ((place, x) ∷ filter (λ (p : ℕ × Transaction). is_version_at office book key number p.0 (number_of_work p.1)) (enumerate_from (place + 1) ts)) (filter (λ (p : ℕ × Transaction). is_version_at office book key number p.0 (number_of_work p.1)) (enumerate_from (place + 1) ts)))) ≡ true
      by_case true so its = either_first (q (cut_work key.sender x)) (list_any q (works_from number (place + 1) ts)) its
      by_case false so its = absurd (false≢true so)
  found_from q number place (suc k) t (x ∷ ts) there is passes =
      let next : place + suc k ≡ place + 1 + k = omega arith in
      by_case (is_version_at office book key number place (number_of_work x))
      (found_from q number (place + 1) k t ts there (ap (λ (i : ℕ). is_version_at office book key number i (number_of_work t)) (sym next) ∙ is) passes)
    where
      by_case : (b : Bool) → list_any q (works_from number (place + 1) ts) ≡ true →
          list_any q (map (λ (p : ℕ × Transaction). cut_work key.sender p.1) (cond b ((place, x) ∷ filter (λ (p : ℕ × Transaction). is_version_at office book key number p.0 (number_of_work p.1)) (enumerate_from (place + 1) ts)) (filter (λ (p : ℕ × Transaction). is_version_at office book key number p.0 (number_of_work p.1)) (enumerate_from (place + 1) ts)))) ≡ true
      by_case true more = either_second (q (cut_work key.sender x)) (list_any q (works_from number (place + 1) ts)) more
      by_case false more = more

  -- and among those of all transmissions under some numbers
  found_over : (q : CutWork → Bool) (ns : List ℕ) (number place : ℕ) (t : Transaction) → is_one_of ns number ≡ true → slice_get (transactions_sent book key.sender number) place ≡ Some t → is_version_at office book key number place (number_of_work t) ≡ true → q (cut_work key.sender t) ≡ true → list_any q (versions_over office book key ns) ≡ true
  found_over q [] number place t one there is passes = absurd (false≢true one)
  found_over q (n ∷ ns) number place t one there is passes =
      list_any-append q (works_from n 0 (transactions_sent book key.sender n)) (versions_over office book key ns) ∙ by_case (n == number) refl (λ one. found_over q ns number place t one there is passes)
    where
      by_case : (e : Bool) → (n == number) ≡ e → (is_one_of ns number ≡ true → list_any q (versions_over office book key ns) ≡ true) → (list_any q (works_from n 0 (transactions_sent book key.sender n)) || list_any q (versions_over office book key ns)) ≡ true
      by_case true here later =
          let same : n ≡ number = same_number n number here in
          let first : 0 + place ≡ place = omega arith in
          either_first (list_any q (works_from n 0 (transactions_sent book key.sender n))) (list_any q (versions_over office book key ns))
          (found_from q n 0 place t (transactions_sent book key.sender n)
          (subst (λ (m : ℕ). slice_get (transactions_sent book key.sender m) place ≡ Some t) (sym same) there)
          (ap₂ (λ (m i : ℕ). is_version_at office book key m i (number_of_work t)) same first ∙ is)
          passes)
      by_case false apart later =
          either_second (list_any q (works_from n 0 (transactions_sent book key.sender n))) (list_any q (versions_over office book key ns))
          (later (sym (ap (λ (r : Bool). r || is_one_of ns number) apart) ∙ one))

  same_itself : (n : ℕ) → (n == n) ≡ true
  same_itself n = (unsigned_Decides n n).1 refl

  bytes_itself : (a : List ℕ) → bytes_eq a a ≡ true
  bytes_itself a = (bytes_eq-Decides a a).1 refl

  -- a version that names a recording is found among the works of the sender's cut
  found_naming : (isrc work : List ℕ) → NamesAt office book isrc work key → list_any (λ w. names_recording isrc w && (bytes_eq w.sender key.sender && bytes_eq (work_of w) work)) (versions_at_cut office book key) ≡ true
  found_naming isrc work named =
      let v = named.version in
      let t = named.transaction in
      let numbered : number_of_work t ≡ Ok work = version_numbered work v t named.its named.there in
      let one = version_in_line office book key.sender work key.number v named.its in
      let at : is_at v.transmission v.place (Some v) ≡ true = both_hold (v.transmission == v.transmission) (v.place == v.place) (same_itself v.transmission) (same_itself v.place) in
      found_over (λ w. names_recording isrc w && (bytes_eq w.sender key.sender && bytes_eq (work_of w) work)) (numbers_to book key.sender key.number) v.transmission v.place t one named.there
      (ap (is_version_at office book key v.transmission v.place) numbered ∙ ap (is_at v.transmission v.place) named.its ∙ at)
      (both_hold (names_recording isrc (cut_work key.sender t)) (bytes_eq key.sender key.sender && bytes_eq (number_or_none (number_of_work t)) work) named.names
      (both_hold (bytes_eq key.sender key.sender) (bytes_eq (number_or_none (number_of_work t)) work) (bytes_itself key.sender)
      (ap (λ (r : Result (List ℕ) IdFault). bytes_eq (number_or_none r) work) numbered ∙ bytes_itself work)))

-- ---- the works of an order's cut

module _ (office : Office) (book : Book) where
  -- a work is a version at the cut of one of these keys
  abbrev IsOfCut : List TransmissionKey → CutWork → Type 0
  IsOfCut keys w = Some_of (λ key. IsVersion office book key (λ _. ⊤) w) keys

  versions_of : (key : TransmissionKey) → AllByRecursion (IsVersion office book key (λ _. ⊤)) (versions_at_cut office book key)
  versions_of key =
      all_as (IsVersion office book key (OneOf office book key (numbers_to book key.sender key.number))) (IsVersion office book key (λ _. ⊤)) (versions_at_cut office book key)
      (version_as office book key (OneOf office book key (numbers_to book key.sender key.number)) (λ _. ⊤) (λ v is. tt)) (versions_all office book key (numbers_to book key.sender key.number))

  all_of_cut : (keys : List TransmissionKey) → AllByRecursion (IsOfCut keys) (flat_map (versions_at_cut office book) keys)
  all_of_cut [] = tt
  all_of_cut (key ∷ keys) =
      all_append (IsOfCut (key ∷ keys)) (versions_at_cut office book key) (flat_map (versions_at_cut office book) keys)
      (all_as (IsVersion office book key (λ _. ⊤)) (IsOfCut (key ∷ keys)) (versions_at_cut office book key) (λ w is. inl is) (versions_of key))
      (all_as (IsOfCut keys) (IsOfCut (key ∷ keys)) (flat_map (versions_at_cut office book) keys) (λ w is. inr is) (all_of_cut keys))

  other_sender : (key : TransmissionKey) (keys : List TransmissionKey) (w : CutWork) → list_any (same_sender (sent_pair key)) (map sent_pair keys) ≡ false → IsOfCut keys w → key.sender ≡ w.sender → ⊥
  other_sender key [] w none is same = absurd is
  other_sender key (x ∷ keys) w none (inl here) same =
      let parts = neither_holds (same_sender (sent_pair key) (sent_pair x)) (list_any (same_sender (sent_pair key)) (map sent_pair keys)) none in
      false≢true (sym parts.0 ∙ (bytes_eq-Decides key.sender x.sender).1 (same ∙ here.sender))
  other_sender key (x ∷ keys) w none (inr later) same =
      let parts = neither_holds (same_sender (sent_pair key) (sent_pair x)) (list_any (same_sender (sent_pair key)) (map sent_pair keys)) none in
      other_sender key keys w parts.1 later same

  apart_of_cut : (keys : List TransmissionKey) → has_repeat same_sender (map sent_pair keys) ≡ false → AreApart (flat_map (versions_at_cut office book) keys)
  apart_of_cut [] once = tt
  apart_of_cut (key ∷ keys) once =
      let parts = neither_holds (list_any (same_sender (sent_pair key)) (map sent_pair keys)) (has_repeat same_sender (map sent_pair keys)) once in
      apart_append (versions_at_cut office book key) (flat_map (versions_at_cut office book) keys) (apart_all office book key (numbers_to book key.sender key.number) (numbers_to_ascend book key.sender key.number)) (apart_of_cut keys parts.1)
      (all_as (IsVersion office book key (λ _. ⊤)) (λ a. AllByRecursion (Differs a) (flat_map (versions_at_cut office book) keys)) (versions_at_cut office book key)
      (λ a its.
      all_as (IsOfCut keys) (Differs a) (flat_map (versions_at_cut office book) keys)
      (λ b later. λ senders works. other_sender key keys b parts.0 later (sym its.sender ∙ senders))
      (all_of_cut keys))
      (versions_of key))

  -- what names a recording at the cut is found
  found_in_cut : (keys : List TransmissionKey) (isrc sender work : List ℕ) → Some_of (λ key. (key.sender ≡ sender) × NamesAt office book isrc work key) keys → list_any (λ w. names_recording isrc w && (bytes_eq w.sender sender && bytes_eq (work_of w) work)) (flat_map (versions_at_cut office book) keys) ≡ true
  found_in_cut [] isrc sender work none = absurd none
  found_in_cut (key ∷ keys) isrc sender work naming =
      let q = λ (w : CutWork). names_recording isrc w && (bytes_eq w.sender sender && bytes_eq (work_of w) work) in
      list_any-append q (versions_at_cut office book key) (flat_map (versions_at_cut office book) keys) ∙ by_case naming (found_in_cut keys isrc sender work)
    where
      by_case : (((key.sender ≡ sender) × NamesAt office book isrc work key) ⊎ Some_of (λ k. (k.sender ≡ sender) × NamesAt office book isrc work k) keys) →
          (Some_of (λ k. (k.sender ≡ sender) × NamesAt office book isrc work k) keys → list_any (λ w. names_recording isrc w && (bytes_eq w.sender sender && bytes_eq (work_of w) work)) (flat_map (versions_at_cut office book) keys) ≡ true) →
          (list_any (λ w. names_recording isrc w && (bytes_eq w.sender sender && bytes_eq (work_of w) work)) (versions_at_cut office book key) || list_any (λ w. names_recording isrc w && (bytes_eq w.sender sender && bytes_eq (work_of w) work)) (flat_map (versions_at_cut office book) keys)) ≡ true
      by_case (inl here) rest =
          either_first _ _
          (subst (λ (s : List ℕ). list_any (λ w. names_recording isrc w && (bytes_eq w.sender s && bytes_eq (work_of w) work)) (versions_at_cut office book key) ≡ true) here.0
          (found_naming office book key isrc work here.1))
      by_case (inr later) rest = either_second _ _ (rest later)

  module _ (order : Order) (isrc : List ℕ) where
    abbrev naming : List CutWork
    naming = filter (names_recording isrc) (works_of_cut office book order)

    -- the work of a list that names a recording at the cut
    names_of : (w : CutWork) → IsOfCut order.cut w → names_recording isrc w ≡ true → NamesAtCut office book order isrc w.sender (work_of w)
    names_of w is names =
        any_of (λ key. (key.sender ≡ w.sender) × NamesAt office book isrc (work_of w) key) order.cut
        (some_as (λ key. IsVersion office book key (λ _. ⊤) w) (λ key. (key.sender ≡ w.sender) × NamesAt office book isrc (work_of w) key) order.cut
        (λ key its. (sym its.sender, record { version = its.version; its = its.its; transaction = w.transaction; there = its.there; names = names }))
        is)

    all_name : AllByRecursion (λ w. NamesAtCut office book order isrc w.sender (work_of w)) naming
    all_name = each naming (filter_all (IsOfCut order.cut) (names_recording isrc) (works_of_cut office book order) (all_of_cut order.cut)) (all_pass (names_recording isrc) (works_of_cut office book order))
      where
        each : (ws : List CutWork) → AllByRecursion (IsOfCut order.cut) ws → AllByRecursion (λ w. names_recording isrc w ≡ true) ws → AllByRecursion (λ w. NamesAtCut office book order isrc w.sender (work_of w)) ws
        each [] are pass = tt
        each (w ∷ ws) are pass = (names_of w are.0 pass.0, each ws are.1 pass.1)

    -- and has a number
    numbered_of : (keys : List TransmissionKey) (w : CutWork) → IsOfCut keys w → number_of_work w.transaction ≡ Ok (work_of w)
    numbered_of [] w is = absurd is
    numbered_of (key ∷ keys) w (inl here) = here.numbered
    numbered_of (key ∷ keys) w (inr later) = numbered_of keys w later

    all_numbered : AllByRecursion (λ w. number_of_work w.transaction ≡ Ok (work_of w)) naming
    all_numbered =
        filter_all (λ w. number_of_work w.transaction ≡ Ok (work_of w)) (names_recording isrc) (works_of_cut office book order)
        (all_as (IsOfCut order.cut) (λ w. number_of_work w.transaction ≡ Ok (work_of w)) (works_of_cut office book order) (numbered_of order.cut) (all_of_cut order.cut))

    found_among : (sender work : List ℕ) → NamesAtCut office book order isrc sender work → list_any (λ w. bytes_eq w.sender sender && bytes_eq (work_of w) work) naming ≡ true
    found_among sender work named =
        sym (any_filtered (names_recording isrc) (λ w. bytes_eq w.sender sender && bytes_eq (work_of w) work) (works_of_cut office book order))
        ∙ found_in_cut order.cut isrc sender work (some_of (λ key. (key.sender ≡ sender) × NamesAt office book isrc work key) order.cut named)

    same_pair : (w : CutWork) (sender work : List ℕ) → (bytes_eq w.sender sender && bytes_eq (work_of w) work) ≡ true → (sender ≡ w.sender) × (work ≡ work_of w)
    same_pair w sender work is =
        let parts = both (bytes_eq w.sender sender) (bytes_eq (work_of w) work) is in
        (sym ((bytes_eq-Decides w.sender sender).0 parts.0), sym ((bytes_eq-Decides (work_of w) work).0 parts.1))

    alone_of : (sender work : List ℕ) → Owns office book order isrc sender work → NamesAlone office book order isrc sender work
    alone_of sender work owns = by_list naming refl owns.1
      where
        none_some : (w : CutWork) → ◌≡◌ {A = Option CutWork} None (Some w) → ⊥
        none_some w e = cc

        by_list : (ws : List CutWork) → naming ≡ ws → sole ws ≡ Some owns.0 → NamesAlone office book order isrc sender work
        by_list [] is e = absurd (none_some owns.0 e)
        by_list (x ∷ y ∷ more) is e = absurd (none_some owns.0 e)
        by_list (x ∷ []) is e =
            let same : x ≡ owns.0 = cc in
            let senders : x.sender ≡ sender = ap (λ (w : CutWork). w.sender) same ∙ owns.2 in
            let works : work_of x ≡ work = ap number_or_none (ap (λ (w : CutWork). number_of_work w.transaction) same ∙ owns.3) in
            let named = (subst (AllByRecursion (λ w. NamesAtCut office book order isrc w.sender (work_of w))) is all_name).0 in
            record {
              names = subst (λ (s : List ℕ). NamesAtCut office book order isrc s work) senders (subst (λ (w : List ℕ). NamesAtCut office book order isrc x.sender w) works named);
              alone = λ other another naming_too.
                  let found = same_pair x other another (only_first _ (subst (λ (ws : List CutWork). list_any (λ w. bytes_eq w.sender other && bytes_eq (work_of w) another) ws ≡ true) is (found_among other another naming_too))) in
                  (found.0 ∙ senders, found.1 ∙ works);
            }

    owns_of : (sender work : List ℕ) → has_repeat same_sender (map sent_pair order.cut) ≡ false → NamesAlone office book order isrc sender work → Owns office book order isrc sender work
    owns_of sender work once alone = by_list naming refl all_name all_numbered (apart_filtered (names_recording isrc) (works_of_cut office book order) (apart_of_cut order.cut once)) (found_among sender work alone.names)
      where
        by_list : (ws : List CutWork) → naming ≡ ws → AllByRecursion (λ w. NamesAtCut office book order isrc w.sender (work_of w)) ws → AllByRecursion (λ w. number_of_work w.transaction ≡ Ok (work_of w)) ws → AreApart ws → list_any (λ w. bytes_eq w.sender sender && bytes_eq (work_of w) work) ws ≡ true → Owns office book order isrc sender work
        by_list [] is named numbers apart found = absurd (false≢true found)
        by_list (x ∷ []) is named numbers apart found =
            let its = alone.alone x.sender (work_of x) named.0 in
            (x, ap sole is, its.0, numbers.0 ∙ ap (λ (w : List ℕ). let r : Result (List ℕ) IdFault = Ok w in r) its.1)
        by_list (x ∷ y ∷ more) is named numbers apart found =
            let one = alone.alone x.sender (work_of x) named.0 in
            let two = alone.alone y.sender (work_of y) named.1.0 in
            absurd (apart.0.0 (one.0 ∙ sym two.0) (one.1 ∙ sym two.1))

none_of : {X : Type 0} (o : Option X) → is_none o ≡ true → o ≡ None
none_of None h = refl
none_of (Some x) h = absurd (false≢true h)

-- no sender stands twice in the cut of an order
senders_once : (order : Order) → IsOrder order → has_repeat same_sender (map sent_pair order.cut) ≡ false
senders_once order kept =
    let cut = map sent_pair order.cut in
    let returns = map return_pair order.returns in
    let in_range = told_none (is_out_of_range order.amount cut returns) OutOfRange _ (none_of _ kept.faultless) in
    let short = told_none (is_too_long cut returns) TooLong _ in_range.1 in
    let once = told_none (names_twice cut returns) NamedTwice _ short.1 in
    (neither_holds (has_repeat same_sender cut) (has_repeat same_numbered returns) once.0).0

-- some work owns a recording exactly where it is the only one that names it
pub owns_alone : (office : Office) (book : Book) (order : Order) (isrc sender work : List ℕ) → IsOrder order → Owns office book order isrc sender work ↔ NamesAlone office book order isrc sender work
owns_alone office book order isrc sender work kept = (alone_of office book order isrc sender work, owns_of office book order isrc sender work (senders_once order kept))
