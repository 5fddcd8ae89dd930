-- A list of rows, written one at a time.
use Rattle.std.proofs.Common.{arith, inr, inl, refl, ◌≡◌, ℕ, List, [], ◌++◌, length, map, take, Result, Ok, Err, sym, ap, subst, ◌∙◌, append-nil, append_assoc}
use Rattle.std.proofs.Math.Seq.{take-append_seam}
use Rattle.std.proofs.lemmas.List.{map-append, nil_from_length}
use Rattle.std.specs.Result.{IsErr}
use Rattle.sqlite_value.specs.Order.{Row}
use Rattle.sqlite.specs.Effect.{Database}
use Rattle.sqlite_schema.specs.declared.schema.Table.{Table}
use Rattle.sqlite.specs.State.{State, HasCleanDisk, Survives}
use Rattle.society_rows.specs.declared.fault.RowFault.{RowFault}
use Rattle.society_rows.specs.Effects.{Writes, IsAllOrNothing, LeavesFirst}
use Rattle.society_rows.specs.Stored.{HasLayout, Adds}
use Rattle.society_rows.proofs.lemmas.changes.Adds.{adds_none, adds_then}
use Rattle.society_rows.proofs.lemmas.changes.Effects.{writes_none, writes_then}

pub adds_first : (table : Table) (a : State) → Writes {X = Unit {0}} a a (Ok tt) (Adds table [])
adds_first table a = writes_none HasLayout a (Adds table []) (adds_none table a.now)

-- a write that failed after those that went through
fails_after : (a b c : State) (P Q Z : Database → Database → Type 0) → ((e f : Database) → P e f → HasLayout f) → (fault : RowFault) (result : Result (Unit {0}) RowFault) → IsErr result
    → Writes {X = Unit {0}} a b (Ok tt) P → Writes {X = Unit {0}} b c (Err fault) Q → Writes a c result Z
fails_after a b c P Q Z keeps fault (Ok x) is before more = absurd cc
fails_after a b c P Q Z keeps fault (Err other) is before more =
    let both = writes_then HasLayout HasLayout a b c tt (Err fault) P Q (λ _ _. Unit {0}) keeps (λ d e f p q. tt) before more in
    record { change = λ clean inside has. tt; inside = λ clean inside. tt; kept = both.kept; survives = both.survives }

-- a write failed after so many
pub leaves_first : (a b c : State) (First : ℕ → Database → Database → Type 0) (count : ℕ) (fault : RowFault) (result : Result (Unit {0}) RowFault) → Writes {X = Unit {0}} a b (Ok tt) (First count)
    → Survives b c (λ _. ⊥) → IsAllOrNothing {X = Unit {0}} b c (Err fault) → LeavesFirst a c result First
leaves_first a b c First count fault (Ok x) before survives whole clean inside has = tt
leaves_first a b c First count fault (Err e) before survives whole clean inside has =
    let was : HasCleanDisk b = omega (arith, survives.clean) in
    elim (whole clean (before.inside was inside)) [
      | inl still ↦ inl (count, subst (λ d. First count a.now d) (sym still.0.now_is) (before.change was inside has))
      | inr undone ↦ inr (record {
        ended = undone.autocommit;
        back = λ opened.
            let now = undone.undone opened in
            let kept = (before.kept was inside).committed (undone.was_open opened) in
            (now.0 ∙ kept, now.1 ∙ kept);
      })
    ]

-- some first rows of a list are written, and these are left
pub record AddsSome {R : Type 0} (table : Table) (values : R → Row) (rows left : List R) (a b : State) : Type 0 where
  pub done : List R
  pub cut : rows ≡ done ++ left
  pub written : Writes {X = Unit {0}} a b (Ok tt) (Adds table (map values done))

pub some_first : {R : Type 0} (table : Table) (values : R → Row) (rows left : List R) (a : State) → rows ≡ left → AddsSome table values rows left a a
some_first table values rows left a is = record { done = []; cut = is; written = adds_first table a }

pub some_all : {R : Type 0} (table : Table) (values : R → Row) (rows left : List R) (a b : State) → length left ≡ 0 → AddsSome table values rows left a b
    → Writes {X = Unit {0}} a b (Ok tt) (Adds table (map values rows))
some_all table values rows left a b none h =
    subst (λ l. Writes {X = Unit {0}} a b (Ok tt) (Adds table (map values l))) (sym (h.cut ∙ ap (λ l. h.done ++ l) (nil_from_length left none) ∙ append-nil h.done)) h.written

pub adds_empty : {R : Type 0} (table : Table) (values : R → Row) (rows : List R) (a : State) → length rows ≡ 0 → Writes {X = Unit {0}} a a (Ok tt) (Adds table (map values rows))
adds_empty table values rows a none = some_all table values rows rows a a none (some_first table values rows rows a refl)

module _ {R : Type 0} (table : Table) (values : R → Row) (rows left : List R) (a b c : State) (before : AddsSome table values rows left a b) where
  -- the next part goes through
  pub some_next : (part rest : List R) (x : Unit {0}) → left ≡ part ++ rest → Writes b c (Ok x) (Adds table (map values part)) → AddsSome table values rows rest a c
  some_next part rest x parts more = record {
    done = before.done ++ part;
    cut = before.cut ∙ ap (λ l. before.done ++ l) parts ∙ sym (append_assoc before.done part rest);
    written = subst (λ l. Writes {X = Unit {0}} a c (Ok tt) (Adds table l)) (sym (map-append values before.done part))
        (writes_then HasLayout HasLayout a b c tt (Ok tt) (Adds table (map values before.done)) (Adds table (map values part)) (Adds table (map values before.done ++ map values part))
        (λ e f h. h.layout) (λ e f k. adds_then table (map values before.done) (map values part) e f k) before.written more);
  }

  -- the next part fails
  pub some_fails : (fault : RowFault) (part all : List Row) (result : Result (Unit {0}) RowFault) → IsErr result → Writes {X = Unit {0}} b c (Err fault) (Adds table part) → Writes a c result (Adds table all)
  some_fails fault part all result is more =
      fails_after a b c (Adds table (map values before.done)) (Adds table part) (Adds table all) (λ e f h. h.layout) fault result is before.written more

  pub some_left : (fault : RowFault) (result : Result (Unit {0}) RowFault) → Survives b c (λ _. ⊥) → IsAllOrNothing {X = Unit {0}} b c (Err fault)
      → LeavesFirst a c result (λ count. Adds table (map values (take count rows)))
  some_left fault result survives whole =
      leaves_first a b c (λ count. Adds table (map values (take count rows))) (length before.done) fault result
      (subst (λ l. Writes {X = Unit {0}} a b (Ok tt) (Adds table (map values l))) (sym (ap (take (length before.done)) before.cut ∙ take-append_seam before.done left)) before.written) survives whole
