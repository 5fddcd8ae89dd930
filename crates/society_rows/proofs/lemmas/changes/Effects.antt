-- Writes in a transaction, one and several.
use Rattle.std.proofs.Common.{◌≡◌, ℕ, List, Result, Ok, Err, IsTrue, IfErr, IsErrAnd, OnOk, IsErr, refl, sym, subst, arith, false, inl}
use Rattle.sqlite_value.specs.Order.{Row}
use Rattle.sqlite.specs.Effect.{Database}
use Rattle.sqlite.specs.State.{State, HasCleanDisk, KeepsCommit, Survives, ExecutesInside}
use Rattle.sqlite.proofs.InsideLemmas.{inside_keeps, keeps_then}
use Rattle.sqlite.proofs.StateLemmas.{survives_then}
use Rattle.society_rows.specs.declared.fault.RowFault.{RowFault}
use Rattle.society_rows.specs.Effects.{RanAs, WritesOver}

changes : (Was : Database → Type 0) (old new : State) (text : List ℕ) (params : Row) (result : Result (Unit {0}) RowFault) (Change : Database → Database → Type 0)
    → ((count : ℕ) → Was old.now → ExecutesInside 0 text params old new (Ok count) → Change old.now new.now) → Was old.now → RanAs text params old new result → OnOk result (Change old.now new.now)
changes Was old new text params (Ok _) Change does has h = does h.0 has h.1
changes Was old new text params (Err fault) Change does has h = tt

goes_on : (old new : State) (text : List ℕ) (params : Row) (result : Result (Unit {0}) RowFault) → RanAs text params old new result → OnOk result (IsTrue new.in_transaction)
goes_on old new text params (Ok _) h = h.1.1.mode
goes_on old new text params (Err fault) h = tt

keeps : (old new : State) (text : List ℕ) (params : Row) (result : Result (Unit {0}) RowFault) → RanAs text params old new result → KeepsCommit old new
keeps old new text params (Ok _) h = inside_keeps old new 0 false text params (Ok h.0) h.1
keeps old new text params (Err fault) h = inside_keeps old new 0 false text params (Err h.0) h.2

-- a statement whose success makes the change is such a write
pub writes_by : (Was : Database → Type 0) (old new : State) (text : List ℕ) (params : Row) (result : Result (Unit {0}) RowFault) (Change : Database → Database → Type 0)
    → (HasCleanDisk new → IsTrue old.in_transaction → RanAs text params old new result) → Survives old new (λ _. ⊥)
    → ((count : ℕ) → Was old.now → ExecutesInside 0 text params old new (Ok count) → Change old.now new.now) → WritesOver Was old new result Change
writes_by Was old new text params result Change ran survives does = record {
  change = λ clean inside has. changes Was old new text params result Change does has (ran clean inside);
  inside = λ clean inside. goes_on old new text params result (ran clean inside);
  kept = λ clean inside. keeps old new text params result (ran clean inside);
  survives = survives;
}

-- nothing is written yet
pub writes_none : (Was : Database → Type 0) (a : State) (P : Database → Database → Type 0) → (Was a.now → P a.now a.now) → WritesOver {X = Unit {0}} Was a a (Ok tt) P
writes_none Was a P none = record {
  change = λ clean inside has. none has;
  inside = λ clean inside. inside;
  kept = λ clean inside. record { was_open = λ h. h; committed = λ h. refl };
  survives = record { clean = omega arith; shield = λ h. h; counts = omega arith; limit = refl; closes = λ clean was. inl was; crash = λ clean db h. inl h };
}

-- a write after one that went through
pub writes_then : {X Y : Type 0} (Was Is : Database → Type 0) (a b c : State) (x : X) (result : Result Y RowFault) (P Q R : Database → Database → Type 0) → ((d e : Database) → P d e → Is e)
    → ((d e f : Database) → P d e → Q e f → R d f) → WritesOver Was a b (Ok x) P → WritesOver Is b c result Q → WritesOver Was a c result R
writes_then Was Is a b c x result P Q R keeps joins one two =
    let before = λ (clean : HasCleanDisk c). let was : HasCleanDisk b = omega (arith, two.survives.clean) in was in
    record {
      change = λ clean inside has.
          let first = one.change (before clean) inside has in
          on_ok result (Q b.now c.now) (R a.now c.now) (joins a.now b.now c.now first) (two.change clean (one.inside (before clean) inside) (keeps a.now b.now first));
      inside = λ clean inside. two.inside clean (one.inside (before clean) inside);
      kept = λ clean inside. keeps_then a b c (one.kept (before clean) inside) (two.kept clean (one.inside (before clean) inside));
      survives = survives_then a b c (λ _. ⊥) (λ _. ⊥) (λ _. ⊥) (λ _ db none. none) (λ _ db none. none) one.survives two.survives;
    }
  where
    on_ok : {Z : Type 0} (r : Result Z RowFault) (A B : Type 0) → (A → B) → OnOk r A → OnOk r B
    on_ok (Ok z) A B f h = f h
    on_ok (Err e) A B f h = tt

-- the same write over a narrower kind of database, said otherwise
pub writes_as : {X : Type 0} (Was Is : Database → Type 0) (a b : State) (result : Result X RowFault) (P Q : Database → Database → Type 0) → (Is a.now → Was a.now) → ((d e : Database) → P d e → Q d e)
    → WritesOver Was a b result P → WritesOver Is a b result Q
writes_as {X} Was Is a b result P Q narrow turns h = record { change = λ clean inside has. on result (h.change clean inside (narrow has)); inside = h.inside; kept = h.kept; survives = h.survives }
  where
    on : (r : Result X RowFault) → OnOk r (P a.now b.now) → OnOk r (Q a.now b.now)
    on (Ok x) p = turns a.now b.now p
    on (Err e) p = tt

-- a statement that failed after writes that went through
pub writes_fail : {X Y : Type 0} (Was Is : Database → Type 0) (a b c : State) (x : X) (P Q : Database → Database → Type 0) → ((d e : Database) → P d e → Is e) → (text : List ℕ) (params : Row) (fault : RowFault)
    (result : Result Y RowFault) → IsErr result → WritesOver Was a b (Ok x) P → (HasCleanDisk c → IsTrue b.in_transaction → RanAs text params b c (Err fault)) → Survives b c (λ _. ⊥) → WritesOver Was a c result Q
writes_fail Was Is a b c x P Q holds text params fault (Ok y) is one ran survives = absurd cc
writes_fail Was Is a b c x P Q holds text params fault (Err e) is one ran survives =
    let two : WritesOver {X = Unit {0}} Is b c (Err fault) (λ _ _. Unit {0}) = record { change = λ clean inside has. tt; inside = λ clean inside. tt; kept = λ clean inside. keeps b c text params (Err fault) (ran clean inside); survives = survives } in
    let both = writes_then Was Is a b c x (Err fault) P (λ _ _. Unit {0}) (λ _ _. Unit {0}) holds (λ d e f p q. tt) one two in
    record { change = λ clean inside has. tt; inside = λ clean inside. tt; kept = both.kept; survives = both.survives }

-- a fault that is handed on
pub handed_on : {X : Type 0} (fault : RowFault) (result : Result X RowFault) (P : RowFault → Type 0) → IsErrAnd result (λ e. e ≡ fault) → P fault → IfErr result P
handed_on fault (Ok x) P is h = tt
handed_on fault (Err e) P is h = subst P (sym is) h
