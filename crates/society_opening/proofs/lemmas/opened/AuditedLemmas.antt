-- What an audit tells, by what the database was found to be.
use Rattle.std.proofs.Common.{ℕ, ◌≡◌, ◌∙◌, inl, inr, IfErr, IfOk, IsTrue, OnOk, Result, Ok, Err, refl, subst, sym, arith, true}
use Rattle.std.proofs.Math.Logic.{∥∥₁_map}
use Rattle.share_rules.specs.declared.office.Office.{Office}
use Rattle.sqlite.proofs.Callers.{survives_begin}
use Rattle.sqlite.proofs.StateLemmas.{survives_then}
use Rattle.sqlite.specs.Effect.{Database}
use Rattle.sqlite.specs.Held.{Held, state}
use Rattle.sqlite.specs.State.{HasCleanDisk, IsRolledBack, State, Survives}
use Rattle.sqlite_trees.specs.Tree.{Trees}
use Rattle.sqlite_trees.specs.declared.store.Store.{Ghosts}
use Rattle.society_rows.specs.Layouts.{HasOlder, number_of}
use Rattle.society_rows.specs.NewBook.{IsBare}
use Rattle.society_rows.specs.Stored.{HasLayout}
use Rattle.society_rows.specs.declared.older.OlderLayout.{OlderLayout}
use Rattle.society_book.specs.Kept.{HoldsOwnBook}
use Rattle.society_opening.specs.Audits.{Audits, Tries, TriesNewest, TriesOver}
use Rattle.society_opening.specs.Existing.{IsSoundIn}
use Rattle.society_opening.specs.Older.{HoldsOlder, HoldsOne}
use Rattle.society_opening.specs.Opening.{TellsDatabase, TellsOfficeIn}
use Rattle.society_opening.specs.TakingOver.{DoesOver, TakesOffice}
use Rattle.society_opening.specs.OpenSteps.{DeniesIn, FailsIn, TellsIn}
use Rattle.society_rows.specs.Effects.{MayFail}
use Rattle.society_opening.proofs.lemmas.opened.Failing.{may_later}
use Rattle.society_opening.specs.declared.open_fault.OpenFault.{OpenFault}
use Rattle.society_opening.specs.declared.open_fault.OpenFault.TheVariants.{Damaged, Store}
use Rattle.society_opening.proofs.lemmas.opened.OpenTold.{not_both, not_older, told_of_layout, told_of_older}

-- tables are examined, or taken over, in a transaction that is rolled back
pub tries_by : {S : Type 0} (g : Ghosts S) (Was : Database → Type 0) (number : ℕ) (o : Office) (Holds : Trees → Type 0) (Says : Database → Database → Unit {0} → Type 0) (old : Held S) (mid new : State) (r : Result (Unit {0}) OpenFault)
    → ((before after : Database) → Says before after tt → ∥ Holds before.trees ∥₁) → (IsTrue (state g old).is_open → (state g old).now ≡ (state g old).committed)
    → DoesOver Was (state g (record old { in_transaction = true })) mid r Says → TellsIn Was number o (state g (record old { in_transaction = true })) mid r
    → DeniesIn Was Holds (state g (record old { in_transaction = true })) mid r → FailsIn Was (state g (record old { in_transaction = true })) mid r → (HasCleanDisk new → IsRolledBack mid new) → Survives mid new (λ _. ⊥)
    → Tries Was number o Holds (state g old) new r
tries_by g Was number o Holds Says old mid new r gives settled does err damaged medium rolled survives = record {
  settled = settled;
  sound = λ clean was. sound_by r (does.says (early clean) refl was);
  was_open = λ clean opened. (does.kept (early clean) refl).was_open ((rolled clean).was_open opened);
  shown = λ clean opened.
      let back = (rolled clean).undone opened in
      let same = (does.kept (early clean) refl).committed ((rolled clean).was_open opened) in
      (back.0 ∙ same, back.1 ∙ same);
  err = λ clean was. err (early clean) refl was;
  damaged = λ clean was. damaged (early clean) refl was;
  medium = λ clean was. failed_later r (medium refl (early clean) was);
  survives = survives_begin g old new (λ _. ⊥) (survives_then begun mid new (λ _. ⊥) (λ _. ⊥) (λ _. ⊥) (λ _ db none. none) (λ _ db none. none) does.survives survives);
}
  where
    begun : State
    begun = state g (record old { in_transaction = true })

    early : HasCleanDisk new → HasCleanDisk mid
    early clean = (let fell = survives.clean in omega (clean, fell, arith))

    failed_later : (z : Result (Unit {0}) OpenFault) → IfErr z (λ e. e ≡ Store → MayFail begun mid) → IfErr z (λ e. e ≡ Store → MayFail (state g old) new)
    failed_later (Ok x) may = tt
    failed_later (Err e) may = λ err. may_later (state g old) mid new survives.counts (may err)

    sound_by : (z : Result (Unit {0}) OpenFault) → IfOk z (Says begun.now mid.now) → OnOk z ∥ Holds begun.now.trees ∥₁
    sound_by (Ok x) said = gives begun.now mid.now said
    sound_by (Err e) said = tt

-- what is taken over stood for tables that hold a book
pub took : (o : Office) (layout : OlderLayout) (before after : Database) → TakesOffice o layout before after tt → ∥ HoldsOlder o layout before.trees ∥₁
took o layout before after taken = ∥∥₁_map taken.1.1.1 (λ holds. record { registered = taken.0; new = after.trees; stands = taken.1.1.0; holds = holds })

module _ (o : Office) (old new : State) (r : Result (Unit {0}) OpenFault) where
  -- one of layout 3
  pub audits_newest : HasLayout old.now → TriesNewest o old new r → Audits o old new r
  audits_newest has tries = record {
    sound = λ clean opened. sound_by r (tries.settled opened) (tries.sound clean has);
    shown = tries.shown;
    err = λ clean opened. told_by r (tries.settled opened) (tries.err clean has) (tries.damaged clean has);
    empty = λ opened bare. absurd (not_both old.now (subst IsBare (sym (tries.settled opened)) bare) has);
    medium = λ clean opened. tries.medium clean has;
    survives = tries.survives;
  }
    where
      sound_by : (z : Result (Unit {0}) OpenFault) → old.now ≡ old.committed → OnOk z (HoldsOne o old.now.trees) → OnOk z (IsSoundIn o old.committed)
      sound_by (Ok x) same held = subst (IsSoundIn o) same (inl (has, held))
      sound_by (Err e) same held = tt

      told_by : (z : Result (Unit {0}) OpenFault) → old.now ≡ old.committed → IfErr z (TellsOfficeIn 3 o old.now) → IfErr z (λ e. e ≡ Damaged → ¬ HoldsOwnBook o old.now.trees) → IfErr z (TellsDatabase o old.committed)
      told_by (Ok x) same says damage = tt
      told_by (Err e) same says damage = subst (λ (db : Database). TellsDatabase o db e) same (told_of_layout o old.now e has says damage)

  -- one of an older layout
  pub audits_older : (layout : OlderLayout) → HasOlder layout old.now → TriesOver o layout old new r → Audits o old new r
  audits_older layout was tries = record {
    sound = λ clean opened. sound_by r (tries.settled opened) (tries.sound clean was);
    shown = tries.shown;
    err = λ clean opened. told_by r (tries.settled opened) (tries.err clean was) (tries.damaged clean was);
    empty = λ opened bare. absurd (not_older layout old.now (subst IsBare (sym (tries.settled opened)) bare) was);
    medium = λ clean opened. tries.medium clean was;
    survives = tries.survives;
  }
    where
      sound_by : (z : Result (Unit {0}) OpenFault) → old.now ≡ old.committed → OnOk z ∥ HoldsOlder o layout old.now.trees ∥₁ → OnOk z (IsSoundIn o old.committed)
      sound_by (Ok x) same held = subst (IsSoundIn o) same (inr (layout, was, held))
      sound_by (Err e) same held = tt

      told_by : (z : Result (Unit {0}) OpenFault) → old.now ≡ old.committed → IfErr z (TellsOfficeIn (number_of layout) o old.now) → IfErr z (λ e. e ≡ Damaged → ¬ HoldsOlder o layout old.now.trees) → IfErr z (TellsDatabase o old.committed)
      told_by (Ok x) same says damage = tt
      told_by (Err e) same says damage = subst (λ (db : Database). TellsDatabase o db e) same (told_of_older o layout old.now e was says damage)
