-- A put of bytes with a fault that is known, whatever follows, is answered as any other that begins so.
use Rattle.std.proofs.Common.{◌≡◌, ℕ, true, false, List, [], ◌++◌, Option, Some, None, refl, ap, sym, subst, ◌∙◌, inl, inr}
use Rattle.std.specs.Option.{is_none}
use Rattle.std.specs.Str.{bytes_eq}
use Rattle.std.proofs.lemmas.Bool.{cases_Bool, and_parts}
use Rattle.std.proofs.lemmas.List.{append-nil}
use Rattle.std.proofs.lemmas.Slice.Eq.{bytes_eq-Decides}
use Rattle.cwr_files.specs.declared.fault.FileFault.{FileFault}
use Rattle.cwr_files.specs.FileFault.{file_fault}
use Rattle.cwr_files.specs.Fed.{Fed, WasFed}
use Rattle.share_rules.specs.declared.office.Office.{Office}
use Rattle.society_core.specs.Book.{Book, IsSound, body_at}
use Rattle.society_core.specs.Answers.{answer, next, put_answer, put_book, known_by}
use Rattle.society_core.specs.Requests.{Puts, Reply}
use Rattle.society_core.specs.Runs.{Proceeds}
use Rattle.society_core.specs.State.{State, IsState}

-- a body without a fault is not one with a fault
other-bytes : (sender kept body : List ℕ) (f : FileFault) → file_fault sender kept ≡ None → file_fault sender body ≡ Some f → bytes_eq kept body ≡ false
other-bytes sender kept body f none some =
    elim (cases_Bool (bytes_eq kept body)) [
      | inl same ↦ let e = sym none ∙ ap (file_fault sender) ((bytes_eq-Decides kept body).0 same) ∙ some in absurd cc
      | inr other ↦ other
    ]

-- a put of a body with this fault is answered alike, and changes nothing
put-faulty : (book : Book) (sender : List ℕ) (number : ℕ) (body bytes : List ℕ) (f : FileFault) (there : Option (List ℕ)) → ((kept : List ℕ) → there ≡ Some kept → file_fault sender kept ≡ None) → file_fault sender body ≡ Some f → file_fault sender bytes ≡ Some f →
    (put_answer book sender number body (known_by body there) ≡ put_answer book sender number bytes (known_by bytes there))
    × (put_book book sender number body (known_by body there) ≡ put_book book sender number bytes (known_by bytes there))
put-faulty book sender number body bytes f None sound a b = (rw (a, b) refl, rw (a, b) refl)
put-faulty book sender number body bytes f (Some kept) sound a b =
    let none = sound kept refl in
    let p = other-bytes sender kept body f none a in
    let q = other-bytes sender kept bytes f none b in
    (rw (p, q) refl, rw (p, q) refl)

is-none : {A : Type 0} (o : Option A) → is_none o ≡ true → o ≡ None
is-none None e = refl
is-none (Some x) e = absurd cc

puts-alike : (office : Office) (book : Book) (sender : List ℕ) (number : ℕ) (body bytes : List ℕ) (f : FileFault) → IsSound book → file_fault sender body ≡ Some f → file_fault sender bytes ≡ Some f →
    (answer office book (Puts sender number body) ≡ answer office book (Puts sender number bytes)) × (next book (Puts sender number body) ≡ next book (Puts sender number bytes))
puts-alike office book sender number body bytes f sound a b =
    put-faulty book sender number body bytes f (body_at book sender number)
    (λ kept is. is-none (file_fault sender kept) (and_parts _ _ (sound.transmissions sender number kept is)).1) a b

proceeds-alike : (old new : State) (sender : List ℕ) (number : ℕ) (body bytes : List ℕ) (reply : Reply) (f : FileFault) → IsState old → file_fault sender body ≡ Some f → file_fault sender bytes ≡ Some f → Proceeds old new (Puts sender number body) reply → Proceeds old new (Puts sender number bytes) reply
proceeds-alike old new sender number body bytes reply f laws a b p = record {
  step = λ clean.
      let same = puts-alike old.office old.book sender number body bytes f (laws.sound (p.goes.clean clean)) a b in
      elim (p.step clean) [
        | inl done ↦ inl (done.0 ∙ same.0, done.1 ∙ same.1)
        | inr busy ↦ inr busy
      ];
  goes = record {
    office = p.goes.office;
    clean = p.goes.clean;
    honest = p.goes.honest;
    failures = p.goes.failures;
    faults = p.goes.faults;
    stays = p.goes.stays;
    crash = λ honest book left.
        elim (p.goes.crash honest book left) [
          | inl before ↦ inl before
          | inr done ↦ inr (done.0, done.1 ∙ (puts-alike old.office old.book sender number body bytes f (laws.sound done.0) a b).1)
        ];
  };
  told = λ asks honest.
      elim (p.told refl honest) [
        | inl busy ↦ inl busy
        | inr truth ↦
            let same = puts-alike old.office old.book sender number body bytes f (laws.sound truth.clean) a b in
            inr (record { clean = truth.clean; says = truth.says ∙ same.0; lasts = λ later left. truth.lasts later left ∙ same.1 })
      ];
}

-- a put of what a reader keeps is a put of all bytes that it was fed
pub puts-fed : (old new : State) (sender : List ℕ) (number : ℕ) (reader : Fed) (bytes : List ℕ) (reply : Reply) → IsState old → reader.sender ≡ sender → WasFed reader bytes → Proceeds old new (Puts sender number reader.body) reply → Proceeds old new (Puts sender number bytes) reply
puts-fed old new sender number reader bytes reply laws is fed p =
    elim (fed.whole) [
      | inl none ↦
          let same : reader.body ≡ bytes = sym (fed.joined ∙ ap (λ r. reader.body ++ r) none ∙ append-nil reader.body) in
          let P : List ℕ → Type 0 = λ b. Proceeds old new (Puts sender number b) reply in
          subst P same p
      | inr known ↦
          let body : file_fault sender reader.body ≡ Some known.0 = ap (λ s. file_fault s reader.body) (sym is) ∙ ap (file_fault reader.sender) (sym (append-nil reader.body)) ∙ known.1 [] in
          let all : file_fault sender bytes ≡ Some known.0 = ap (λ s. file_fault s bytes) (sym is) ∙ ap (file_fault reader.sender) fed.joined ∙ known.1 fed.dropped in
          proceeds-alike old new sender number reader.body bytes reply known.0 laws body all p
    ]
