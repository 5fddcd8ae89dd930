-- Statements that write what is derived, one after another.
use Rattle.std.proofs.Common.{◌≡◌, ◌∙◌, List, Result, Ok, Err, IfErr, IfOk, refl, subst, sym, [], ◌∷◌, drop, take}
use Rattle.std.specs.List.{AllByRecursion}
use Rattle.std.specs.Result.{IsErrAnd}
use Rattle.sqlite.specs.Effect.{Database}
use Rattle.sqlite.specs.State.{State}
use Rattle.sqlite_schema.specs.declared.schema.Table.{Table}
use Rattle.sqlite_trees.specs.Tree.{Trees}
use Rattle.society_rows.specs.Layout.{all_tables}
use Rattle.society_book.proofs.lemmas.together.StepLemmas.{more}
use Rattle.society_book.proofs.lemmas.together.JudgedLemmas.{judged_also, judged_as, judged_not, judged_nothing, judged_then}
use Rattle.society_book.specs.Errors.{Blames}
use Rattle.society_book.specs.Steps.{Examines}
use Rattle.society_rows.specs.declared.fault.RowFault.{RowFault}
use Rattle.book_derivation.specs.Deriving.{Derives, KeepsOwn}

-- ---- the tables of the book itself

all_same : (ts : List Table) (db : Trees) → AllByRecursion (λ (t : Table). db t.tree ≡ db t.tree) ts
all_same [] db = tt
all_same (t ∷ ts) db = (refl, all_same ts db)

all_on : (ts : List Table) (a b c : Trees) → AllByRecursion (λ (t : Table). b t.tree ≡ a t.tree) ts → AllByRecursion (λ (t : Table). c t.tree ≡ b t.tree) ts → AllByRecursion (λ (t : Table). c t.tree ≡ a t.tree) ts
all_on [] a b c one two = tt
all_on (t ∷ ts) a b c one two = (two.0 ∙ one.0, all_on ts a b c one.1 two.1)

pub own_same : (db : Trees) → KeepsOwn db db
own_same db = record { first = all_same (take 6 all_tables) db; later = all_same (drop 12 all_tables) db }

pub own_on : (a b c : Trees) → KeepsOwn a b → KeepsOwn b c → KeepsOwn a c
own_on a b c one two = record { first = all_on (take 6 all_tables) a b c one.first two.first; later = all_on (drop 12 all_tables) a b c one.later two.later }

-- ---- statements

-- what is examined writes nothing
pub derives_examined : {X : Type 0} (Wrong : Trees → Type 0) (old new : State) (r : Result X RowFault) (A : Trees → X → Type 0) → Examines Wrong old new r A → Derives Wrong old new r (λ before after x. (after ≡ before) × A before x)
derives_examined Wrong old new r A examined =
    judged_also Wrong Wrong old new r (λ before after x. (after ≡ before) × A before.trees x) (λ before after x. KeepsOwn before.trees after.trees × ((after.trees ≡ before.trees) × A before.trees x)) examined
    (λ x one. subst (λ (d : Database). KeepsOwn old.now.trees d.trees × ((d.trees ≡ old.now.trees) × A old.now.trees x)) (sym one.0) (own_same old.now.trees, (refl, one.1)))
    (λ wrong. wrong)

-- no statement
pub derives_nothing : {X : Type 0} (Wrong : Trees → Type 0) (s : State) (x : X) (A : Trees → Trees → X → Type 0) → A s.now.trees s.now.trees x → Derives Wrong s s (Ok x) A
derives_nothing Wrong s x A holds = judged_nothing Wrong s x (λ before after x. KeepsOwn before.trees after.trees × A before.trees after.trees x) (own_same s.now.trees, holds)

-- statements, and then others: what is wrong of the later is wrong by what the first wrote
pub derives_then : {X Y : Type 0} (First Later Wrong : Trees → Type 0) (old mid new : State) (x : X) (r : Result Y RowFault) (A : Trees → Trees → X → Type 0) (B C : Trees → Trees → Y → Type 0)
    → Derives First old mid (Ok x) A → Derives Later mid new r B
    → ((y : Y) → KeepsOwn old.now.trees mid.now.trees → KeepsOwn mid.now.trees new.now.trees → A old.now.trees mid.now.trees x → B mid.now.trees new.now.trees y → C old.now.trees new.now.trees y)
    → (KeepsOwn old.now.trees mid.now.trees → A old.now.trees mid.now.trees x → Later mid.now.trees → Wrong old.now.trees)
    → Derives Wrong old new r C
derives_then First Later Wrong old mid new x r A B C first second follows denies =
    judged_then First Later Wrong old mid new x r (λ before after x. KeepsOwn before.trees after.trees × A before.trees after.trees x) (λ before after y. KeepsOwn before.trees after.trees × B before.trees after.trees y) (λ before after y. KeepsOwn before.trees after.trees × C before.trees after.trees y) first second
    (λ y one two. (own_on old.now.trees mid.now.trees new.now.trees one.0 two.0, follows y one.0 two.0 one.1 two.1)) (λ one. denies one.0 one.1)

-- what is worked out of what was written
pub derives_as : {X Y : Type 0} (First Wrong : Trees → Type 0) (old new : State) (x : X) (r : Result Y RowFault) (A : Trees → Trees → X → Type 0) (B : Trees → Trees → Y → Type 0)
    → Derives First old new (Ok x) A → (A old.now.trees new.now.trees x → IfOk r (B old.now.trees new.now.trees)) → (A old.now.trees new.now.trees x → IfErr r (Blames (Wrong old.now.trees))) → Derives Wrong old new r B
derives_as First Wrong old new x r A B first follows blames =
    judged_as First Wrong old new x r (λ before after x. KeepsOwn before.trees after.trees × A before.trees after.trees x) (λ before after y. KeepsOwn before.trees after.trees × B before.trees after.trees y) first
    (λ one. more r (λ y here. (one.0, here)) (follows one.1)) (λ one. blames one.1)

-- a fault that is handed on
pub derives_not : {X Y : Type 0} (First Wrong : Trees → Type 0) (old new : State) (fault : RowFault) (r : Result Y RowFault) (A : Trees → Trees → X → Type 0) (B : Trees → Trees → Y → Type 0)
    → Derives {X = X} First old new (Err fault) A → IsErrAnd r (λ e. e ≡ fault) → (First old.now.trees → Wrong old.now.trees) → Derives Wrong old new r B
derives_not {X} {Y} First Wrong old new fault r A B first is also =
    judged_not {X = X} First Wrong old new fault r (λ before after x. KeepsOwn before.trees after.trees × A before.trees after.trees x) (λ before after y. KeepsOwn before.trees after.trees × B before.trees after.trees y) first is also

-- what is said follows
pub derives_also : {X : Type 0} (First Wrong : Trees → Type 0) (old new : State) (r : Result X RowFault) (A B : Trees → Trees → X → Type 0) → Derives First old new r A
    → ((x : X) → KeepsOwn old.now.trees new.now.trees → A old.now.trees new.now.trees x → B old.now.trees new.now.trees x) → (First old.now.trees → Wrong old.now.trees) → Derives Wrong old new r B
derives_also First Wrong old new r A B first follows also =
    judged_also First Wrong old new r (λ before after x. KeepsOwn before.trees after.trees × A before.trees after.trees x) (λ before after x. KeepsOwn before.trees after.trees × B before.trees after.trees x) first (λ x one. (one.0, follows x one.0 one.1)) also
