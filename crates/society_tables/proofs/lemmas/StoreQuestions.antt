-- What every question of a store promises, by what became of its connection.
use Rattle.std.proofs.Common.{◌≡◌, ◌⊎◌, ◌≤◌, ◌<◌, ◌-◌, ◌^◌, inl, inr, ℕ, ◌&&◌, IsTrue, Result, Ok, Err, IfOk, IfErr, OnOk, refl, subst, sym, arith}
use Rattle.std.specs.Coded.{Coded, Coded-set, code_by, coded×, coded⊎, coded_ℕ, coded_list}
use Rattle.std.specs.FinMap as finite
use Rattle.std.proofs.Math.Logic.{∥∥₁_elim, ∥∥₁_map}
use Rattle.share_rules.specs.declared.office.Office.{Office}
use Rattle.society_core.specs.Book.{Book}
use Rattle.society_core.specs.Keys.{coded_end, coded_return_key, coded_segment_key, coded_transmission_key}
use Rattle.society_core.specs.Orders.{coded_order}
use Rattle.society_core.specs.Requests.{Acknowledged, Credited, Described, Judged, Owed, Shown, Showing, Stands}
use Rattle.share_rules.specs.contracts.holder.Holder as holder
use Rattle.works_core.specs.contracts.version.WorkVersion as version
use Rattle.society_core.specs.State.{HasCause, Question}
use Rattle.pool_split.specs.contracts.claim.Credit as credit
use Rattle.pool_split.specs.declared.claim.Credit.{Credit}
use Rattle.works_core.specs.contracts.verdict.Verdict as verdict
use Rattle.work_ids.specs.contracts.account.Account as account
use Rattle.work_ids.specs.declared.account.Account.{Account}
use Rattle.works_core.specs.declared.verdict.Verdict.{Verdict}
use Rattle.std.specs.Coded.{coded_option}
use Rattle.std.proofs.Common.{List, Option}
use Rattle.society_core.specs.contracts.store.Known as known
use Rattle.society_core.specs.contracts.store.KnownEnd as known_end
use Rattle.society_core.specs.contracts.store.KnownTransmission as known_transmission
use Rattle.society_core.specs.contracts.store.Payment as payment
use Rattle.society_core.specs.contracts.store.NumberPlace as place
use Rattle.society_core.specs.declared.store.Known.{Known}
use Rattle.society_core.specs.declared.store.KnownEnd.{KnownEnd}
use Rattle.society_core.specs.declared.store.KnownTransmission.{KnownTransmission}
use Rattle.society_core.specs.declared.store.Payment.{Payment}
use Rattle.society_core.specs.declared.store.NumberPlace.{NumberPlace}
use Rattle.society_core.specs.declared.store.StoreFault.{StoreFault}
use Rattle.society_rows.specs.declared.fault.RowFault.{RowFault}
use Rattle.society_rows.specs.declared.fault.RowFault.TheVariants.{Memory, Overflow, Refused, Schema, Damaged}
use Rattle.society_book.specs.BookRows.{book_of}
use Rattle.society_tables.specs.Faults.{Told, counted, store_fault}
use Rattle.society_rows.specs.Questions as Rows
use Rattle.sqlite_trees.specs.Tree.{Trees}
use Rattle.society_book.specs.Shown.{ByBook, ByOwnBook}
use Rattle.society_book.specs.Kept.{AsksOf, HoldsBook, IsOfficeBook, Rests, tables_state}
use Rattle.society_book.proofs.lemmas.shown.AskLemmas.{asks, both_true, clean_before, clean_is, first_true, goes, rests_on, was_clean}
use Rattle.sqlite.specs.State.{HasCleanDisk, State}

pub coded_book : Coded Book
coded_book =
    code_by (_ × (_ × (_ × _)))
    (coded× (finite.code coded_transmission_key (coded_list coded_ℕ)) (coded× (finite.code coded_segment_key coded_end) (coded× (finite.code coded_return_key (coded_list coded_ℕ)) (finite.code coded_ℕ coded_order))))
    (λ b. (b.transmissions, (b.ends, (b.returns, b.pools)))) (λ p. record { transmissions = p.0; ends = p.1.0; returns = p.1.1.0; pools = p.1.1.1 }) (λ _. refl)

abbrev pub IsAlone : Type 0 → Type 0
IsAlone P = (x y : P) → x ≡ y

pub ok_alone : {T E : Type 0} (r : Result T E) (P : T → Type 0) → ((x : T) → IsAlone (P x)) → IsAlone (IfOk r P)
ok_alone (Ok x) P alone = alone x
ok_alone (Err e) P alone = λ x y. refl

-- counts of failures
counts_on : (fault : RowFault) (f g : ℕ) → g ≡ counted fault f → f ≤ g
counts_on Memory f g e = omega (e, arith)
counts_on Schema f g e = omega (e, arith)
counts_on Damaged f g e = omega (e, arith)
counts_on Overflow f g e = omega (e, arith)
counts_on (Refused error) f g e = omega (e, arith)

pub told_on : {T : Type 0} (answer : Result T RowFault) (result : Result T StoreFault) (f g : ℕ) → Told answer result f g → f ≤ g
told_on (Ok x) result f g told = (let e = told.1 in omega (e, arith))
told_on (Err fault) result f g told = counts_on fault f g told.1

fault_cause : (o : Office) (old new : State) (fault : RowFault) (f g : ℕ) → g ≡ counted fault f → HasCause (tables_state o old f) (tables_state o new g) (store_fault fault)
fault_cause o old new Memory f g e = tt
fault_cause o old new Schema f g e = inl (omega (e, arith))
fault_cause o old new Damaged f g e = inl (omega (e, arith))
fault_cause o old new Overflow f g e = inl (omega (e, arith))
fault_cause o old new (Refused error) f g e = inl (omega (e, arith))

pub told_cause : {T : Type 0} (o : Office) (old new : State) (answer : Result T RowFault) (result : Result T StoreFault) (f g : ℕ) → Told answer result f g → IfErr result (HasCause (tables_state o old f) (tables_state o new g))
told_cause o old new (Ok x) result f g told = subst (λ r. IfErr r (HasCause (tables_state o old f) (tables_state o new g))) (sym told.0) tt
told_cause o old new (Err fault) result f g told = subst (λ r. IfErr r (HasCause (tables_state o old f) (tables_state o new g))) (sym told.0) (fault_cause o old new fault f g told.1)

pub told_answer : {T : Type 0} (answer : Result T RowFault) (result : Result T StoreFault) (f g : ℕ) (P : T → Type 0) → Told answer result f g → IfOk answer P → IfOk result P
told_answer (Ok x) result f g P told h = subst (λ r. IfOk r P) (sym told.0) h
told_answer (Err fault) result f g P told h = subst (λ r. IfOk r P) (sym told.0) tt

-- the store's answer is one of the tables
pub told_open : {T : Type 0} (answer : Result T RowFault) (result : Result T StoreFault) (f g : ℕ) (P : Type 0) → Told answer result f g → OnOk answer P → OnOk result P
told_open (Ok x) result f g P told h = subst (λ r. OnOk r P) (sym told.0) h
told_open (Err fault) result f g P told h = subst (λ r. OnOk r P) (sym told.0) tt

module _ (o : Office) (old new : State) (f g : ℕ) (rests : ∥ Rests o old ∥₁) (asks_of : AsksOf old new) where
  book_stays : IsTrue (new.is_clean && new.is_open) → f ≤ g → (tables_state o new g).book ≡ (tables_state o old f).book
  book_stays clean more = ∥∥₁_elim rests (Coded-set coded_book _ _) (λ r. (asks o old new asks_of f g more r).same clean)

  -- a question of a store over a connection: what it answers where the tables hold a book
  pub question : {T : Type 0} (answer : Result T RowFault) (result : Result T StoreFault) (IsAnswer : T → Type 0) → ((x : T) → IsAlone (IsAnswer x)) → f < 2 ^ 64 - 1 → Told answer result f g → (HasCleanDisk new → OnOk answer (IsTrue old.is_open)) → (HasCleanDisk new → IsOfficeBook o old.now → IfOk answer IsAnswer) → Question (tables_state o old f) (tables_state o new g) result IsAnswer
  question {T} answer result IsAnswer alone below told opened answers =
      let more : f ≤ g = told_on answer result f g told in
      record {
        answer = λ clean. told_answer answer result f g IsAnswer told (∥∥₁_elim rests (ok_alone answer IsAnswer alone) (λ r. answers (clean_is new.is_clean (first_true new.is_clean new.is_open clean)) (r (clean_before o old new asks_of clean)).kept));
        truth = λ honest. told_answer answer result f g IsAnswer told (true_by answer (was honest answer (opened (clean_is new.is_clean honest))) (answers (clean_is new.is_clean honest)));
        answered = λ honest. told_open answer result f g (IsTrue (old.is_clean && old.is_open)) told (was honest answer (opened (clean_is new.is_clean honest)));
        asks = record { goes = goes o old new asks_of f g more; same = λ clean. book_stays clean more };
        cause = told_cause o old new answer result f g told;
        refuses = λ full. absurd (let e = full in omega (e, below, arith));
      }
    where
      was : IsTrue new.is_clean → (r : Result T RowFault) → OnOk r (IsTrue old.is_open) → OnOk r (IsTrue (old.is_clean && old.is_open))
      was honest (Ok x) opened = both_true old.is_clean old.is_open (was_clean old.is_clean new.is_clean asks_of.survives.clean honest) opened
      was honest (Err fault) opened = tt

      true_by : (r : Result T RowFault) → OnOk r (IsTrue (old.is_clean && old.is_open)) → (IsOfficeBook o old.now → IfOk r IsAnswer) → IfOk r IsAnswer
      true_by (Ok x) live answers = ∥∥₁_elim rests (alone x) (λ r. answers (r live).kept)
      true_by (Err fault) live answers = tt

-- a question of the tables is one of a store
pub asks_of : {X : Type 0} (old new : State) (r : Result X RowFault) (Found : Trees → X → Type 0) → Rows.Asks old new r Found → AsksOf old new
asks_of old new r Found asked = record { was_open = asked.was_open; undone = asked.undone; survives = asked.survives }

of_book : {T : Type 0} (IsAnswer : Office → Book → T → Type 0) (o : Office) (b : Book) (db : Trees) (r : Result T RowFault) → HoldsBook o b db → IfOk r (ByBook IsAnswer db) → IfOk r (IsAnswer o b)
of_book IsAnswer o b db (Ok x) holds h = h o b holds
of_book IsAnswer o b db (Err fault) holds h = tt

-- a question of the tables, answered by their book, is a question of the store
pub question_by : {T : Type 0} (IsAnswer : Office → Book → T → Type 0) (o : Office) (old new : State) (f g : ℕ) (answer : Result T RowFault) (result : Result T StoreFault) → ∥ Rests o old ∥₁ → Rows.Asks old new answer (ByBook IsAnswer) → ((b : Book) (x : T) → IsAlone (IsAnswer o b x)) → f < 2 ^ 64 - 1 → Told answer result f g → Question (tables_state o old f) (tables_state o new g) result (IsAnswer o (book_of old.now.trees))
question_by IsAnswer o old new f g answer result rests asked alone below told =
    question o old new f g rests (asks_of old new answer (ByBook IsAnswer) asked) answer result (IsAnswer o (book_of old.now.trees)) (alone (book_of old.now.trees)) below told
    asked.answered (λ clean kept. of_book IsAnswer o (book_of old.now.trees) old.now.trees answer kept.holds (asked.found clean kept.layout))

-- so is one that is answered by the book of the office
pub question_own : {T : Type 0} (o : Office) (IsAnswer : Book → T → Type 0) (old new : State) (f g : ℕ) (answer : Result T RowFault) (result : Result T StoreFault) → ∥ Rests o old ∥₁ → Rows.Asks old new answer (ByOwnBook o IsAnswer) → ((b : Book) (x : T) → IsAlone (IsAnswer b x)) → f < 2 ^ 64 - 1 → Told answer result f g → Question (tables_state o old f) (tables_state o new g) result (IsAnswer (book_of old.now.trees))
question_own {T} o IsAnswer old new f g answer result rests asked alone below told =
    question o old new f g rests (asks_of old new answer (ByOwnBook o IsAnswer) asked) answer result (IsAnswer (book_of old.now.trees)) (alone (book_of old.now.trees)) below told
    asked.answered (λ clean kept. own answer kept.holds (asked.found clean kept.layout))
  where
    own : (r : Result T RowFault) → HoldsBook o (book_of old.now.trees) old.now.trees → IfOk r (ByOwnBook o IsAnswer old.now.trees) → IfOk r (IsAnswer (book_of old.now.trees))
    own (Ok x) holds h = h (book_of old.now.trees) holds
    own (Err fault) holds h = tt

-- and the store rests on
pub still_rests : {X : Type 0} (o : Office) (old new : State) (r : Result X RowFault) (Found : Trees → X → Type 0) → ∥ Rests o old ∥₁ → Rows.Asks old new r Found → ∥ Rests o new ∥₁
still_rests o old new r Found rests asked = ∥∥₁_map rests (rests_on o old new (asks_of old new r Found asked))

-- one equation has one proof
pub one_known : (x y : Known) → IsAlone (x ≡ y)
one_known x y = Coded-set known.the_row.coded x y

pub one_known_transmission : (x y : KnownTransmission) → IsAlone (x ≡ y)
one_known_transmission x y = Coded-set known_transmission.the_row.coded x y

pub one_place : (x y : NumberPlace) → IsAlone (x ≡ y)
one_place x y = Coded-set place.the_row.coded x y

pub one_known_end : (x y : KnownEnd) → IsAlone (x ≡ y)
one_known_end x y = Coded-set known_end.the_row.coded x y

pub one_number : (n m : ℕ) → IsAlone (n ≡ m)
one_number n m = Coded-set coded_ℕ n m

pub one_payment : (x y : Payment) → IsAlone (x ≡ y)
one_payment x y = Coded-set payment.the_row.coded x y

-- what is shown of a work as the tuple of its parts
coded_shown : Coded Shown
coded_shown =
    code_by (_ × (_ × (_ × (_ × (_ × _)))))
    (coded× (coded_list coded_ℕ) (coded× version.the_row.coded (coded× (coded_list coded_ℕ) (coded× (coded_option (coded_list coded_ℕ)) (coded× (coded_list (coded_list coded_ℕ)) (coded_list holder.the_row.coded))))))
    (λ w. (w.number, (w.version, (w.title, (w.iswc, (w.isrcs, w.holders))))))
    (λ p. record { number = p.0; version = p.1.0; title = p.1.1.0; iswc = p.1.1.1.0; isrcs = p.1.1.1.1.0; holders = p.1.1.1.1.1 })
    (λ _. refl)

-- what is shown, as one of six
abbrev Parts : Type 0
Parts = List ℕ ⊎ ((ℕ × List ℕ) ⊎ (Shown ⊎ (List Verdict ⊎ (List Credit ⊎ (Account × ℕ)))))

abbrev split : Showing → Parts
split (Acknowledged text) = inl text
split (Stands front held) = inr (inl (front, held))
split (Described work) = inr (inr (inl work))
split (Judged verdicts) = inr (inr (inr (inl verdicts)))
split (Credited credits) = inr (inr (inr (inr (inl credits))))
split (Owed account units) = inr (inr (inr (inr (inr (account, units)))))

abbrev join : Parts → Showing
join (inl text) = Acknowledged text
join (inr (inl stands)) = Stands stands.0 stands.1
join (inr (inr (inl work))) = Described work
join (inr (inr (inr (inl verdicts)))) = Judged verdicts
join (inr (inr (inr (inr (inl credits))))) = Credited credits
join (inr (inr (inr (inr (inr owed))))) = Owed owed.0 owed.1

join_split : (shown : Showing) → join (split shown) ≡ shown
join_split (Acknowledged text) = refl
join_split (Stands front held) = refl
join_split (Described work) = refl
join_split (Judged verdicts) = refl
join_split (Credited credits) = refl
join_split (Owed account units) = refl

coded_showing : Coded Showing
coded_showing =
    code_by Parts
    (coded⊎ (coded_list coded_ℕ) (coded⊎ (coded× coded_ℕ (coded_list coded_ℕ)) (coded⊎ coded_shown (coded⊎ (coded_list verdict.the_row.coded) (coded⊎ (coded_list credit.the_row.coded) (coded× account.the_row.coded coded_ℕ))))))
    split join join_split

pub one_showing : (x y : Option Showing) → IsAlone (x ≡ y)
one_showing x y = Coded-set (coded_option coded_showing) x y
