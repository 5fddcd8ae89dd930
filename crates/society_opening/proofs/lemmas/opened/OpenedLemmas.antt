-- What an opening does, by what the database was found to be.
use Rattle.std.proofs.Common.{◌≡◌, ◌≢◌, ◌∙◌, ◌&&◌, ⊎_elim, inl, inr, Bool, true, false, Result, Ok, Err, IsTrue, OnOk, OnErr, IfErr, IfOk, MatchResult, refl, sym, subst, arith}
use Rattle.std.proofs.lemmas.Bool.{false≢true}
use Rattle.std.proofs.Math.Logic.{∥∥₁_map}
use Rattle.share_rules.specs.declared.office.Office.{Office}
use Rattle.sqlite.specs.Effect.{Database}
use Rattle.sqlite.specs.State.{HasCleanDisk, State, Survives}
use Rattle.sqlite_trees.specs.Tree.{Trees}
use Rattle.society_core.specs.Book.{empty_book}
use Rattle.society_rows.specs.Finding.{IsFound}
use Rattle.society_rows.specs.declared.finding.Found.{Found}
use Rattle.society_rows.specs.declared.finding.Found.TheVariants as kind
use Rattle.society_rows.specs.NewBook.{Begins, IsBare, IsNewBook}
use Rattle.society_rows.specs.Layouts.{HasOlder, number_of}
use Rattle.society_rows.specs.Stored.{HasLayout}
use Rattle.society_rows.specs.declared.older.OlderLayout.{OlderLayout}
use Rattle.society_rows.specs.Effects.{MayFail}
use Rattle.society_rows.specs.declared.older.OlderLayout.TheVariants as older
use Rattle.society_book.specs.BookRows.{book_of}
use Rattle.society_book.specs.Kept.{HoldsOwnBook, IsAtRest, Rests, office_row}
use Rattle.society_opening.specs.Existing.{FindsOffice, SurvivesTaking}
use Rattle.society_opening.specs.Older.{HoldsOlder, HoldsOne, IsTakenOver}
use Rattle.society_opening.specs.Audits.{TriesNewest}
use Rattle.society_opening.specs.Opening.{IsOpenable, IsOutside, Opens, ShowsAs, SurvivesOpening, TellsDatabase, TellsOfficeIn}
use Rattle.society_opening.specs.TakingOver.{TakesOffice}
use Rattle.society_opening.specs.OpenSteps.{FailsTaking, TakesOver}
use Rattle.society_opening.specs.declared.open_fault.OpenFault.{OpenFault}
use Rattle.society_opening.specs.declared.open_fault.OpenFault.TheVariants.{Damaged, Empty, Schema, Store}
use Rattle.society_book.proofs.lemmas.shown.AskLemmas.{clean_is, first_true, second_true}
use Rattle.society_tables.proofs.lemmas.EmptyTables.{begun_book, begun_rests}
use Rattle.society_opening.proofs.lemmas.opened.OpenTold.{not_both, not_older, older_apart, older_once, outside_told, told_of_layout, told_of_older}

-- what an answer says, by the answer
on_ok : {X : Type 0} (r : Result X OpenFault) {P : Type 0} → P → OnOk r P
on_ok (Ok x) h = h
on_ok (Err e) h = tt

on_err : {X : Type 0} (r : Result X OpenFault) {P : Type 0} → P → OnErr r P
on_err (Ok x) h = tt
on_err (Err e) h = h

-- what is so of some where a truth holds is so of one that needs it
rests_from : (b : Bool) (P : Type 0) → (IsTrue b → ∥ P ∥₁) → ∥ (IsTrue b → P) ∥₁
rests_from true P h = ∥∥₁_map (h refl) (λ p _. p)
rests_from false P h = ∣ (λ is. absurd (false≢true is)) ∣₁

module _ (o : Office) (old new : State) (r : Result (Unit {0}) OpenFault) (settled : IsTrue old.is_open → old.now ≡ old.committed) where
  -- a database that had no table
  pub opens_begun : IsBare old.now → (HasCleanDisk new → OnOk r (Begins (office_row o) new.now × (new.now ≡ new.committed))) → (HasCleanDisk new → OnErr r (ShowsAs old.committed new)) → IfErr r IsOutside
      → (HasCleanDisk new → IfErr r (λ e. e ≡ Store → MayFail old new)) → Survives old new (IsNewBook (office_row o)) → Opens o old new r
  opens_begun bare created neither outside medium crash = record {
    rests = rests_by r created;
    begun = λ clean is_open was. book_by r (created clean);
    audited = λ clean is_open has. absurd (not_both old.now bare (subst HasLayout (sym (settled is_open)) has));
    taken = λ clean is_open layout was. absurd (not_older layout old.now bare (subst (HasOlder layout) (sym (settled is_open)) was));
    known = λ clean is_open. on_ok r (inl (subst IsBare (settled is_open) bare));
    unchanged = neither;
    err = λ clean is_open. told_by r outside;
    medium = λ clean is_open. medium clean;
    crash = record {
      clean = crash.clean;
      shield = crash.shield;
      counts = crash.counts;
      limit = crash.limit;
      closes = crash.closes;
      crash = λ clean db left. ⊎_elim (λ (before : old.may_leave db). inl before) (λ (made : IsNewBook (office_row o) db). inr (inl (bare, made))) (crash.crash clean db left);
    };
  }
    where
      rests_by : (z : Result (Unit {0}) OpenFault) → (HasCleanDisk new → OnOk z (Begins (office_row o) new.now × (new.now ≡ new.committed))) → OnOk z ∥ Rests o new ∥₁
      rests_by (Ok x) made = ∣ (λ live. begun_rests o (office_row o) new refl (made (clean_is new.is_clean (first_true new.is_clean new.is_open live))).0 (made (clean_is new.is_clean (first_true new.is_clean new.is_open live))).1) ∣₁
      rests_by (Err e) made = tt

      told_by : (z : Result (Unit {0}) OpenFault) → IfErr z IsOutside → IfErr z (TellsDatabase o old.committed)
      told_by (Ok x) medium = tt
      told_by (Err e) medium = outside_told o old.committed e medium

      book_by : (z : Result (Unit {0}) OpenFault) → OnOk z (Begins (office_row o) new.now × (new.now ≡ new.committed)) → OnOk z (book_of new.now.trees ≡ empty_book)
      book_by (Ok x) made = begun_book o (office_row o) new.now refl made.0
      book_by (Err e) made = tt

  -- one of layout 3 that was audited
  pub opens_audited : HasLayout old.now → TriesNewest o old new r → Opens o old new r
  opens_audited has tries = record {
    rests = rests_by r (λ clean. tries.sound clean has);
    begun = λ clean is_open bare. absurd (not_both old.now (subst IsBare (sym (settled is_open)) bare) has);
    audited = λ clean is_open was. held_by r (settled is_open) (tries.sound clean has) (tries.shown clean);
    taken = λ clean is_open layout was. absurd (older_apart layout old.now (subst (HasOlder layout) (sym (settled is_open)) was) has);
    known = λ clean is_open. on_ok r (inr (inl (subst HasLayout (settled is_open) has)));
    unchanged = λ clean. on_err r (tries.shown clean);
    err = λ clean is_open. told_by r (settled is_open) (tries.err clean has) (tries.damaged clean has);
    medium = λ clean is_open. tries.medium clean has;
    crash = record {
      clean = tries.survives.clean;
      shield = tries.survives.shield;
      counts = tries.survives.counts;
      limit = tries.survives.limit;
      closes = tries.survives.closes;
      crash = λ clean db left. ⊎_elim (λ (before : old.may_leave db). inl before) (λ (never : ⊥). absurd never) (tries.survives.crash clean db left);
    };
  }
    where
      same_now : HasCleanDisk new → IsTrue new.is_open → new.now ≡ old.now
      same_now clean is_open = (tries.shown clean is_open).0 ∙ sym (settled (tries.was_open clean is_open))

      at_rest : IsTrue (new.is_clean && new.is_open) → HoldsOwnBook o old.now.trees → IsAtRest o new
      at_rest live holds =
          let clean = clean_is new.is_clean (first_true new.is_clean new.is_open live) in
          let is_open = second_true new.is_clean new.is_open live in
          let undone = tries.shown clean is_open in
          record {
            same = undone.0 ∙ sym undone.1;
            kept = record {
              layout = subst HasLayout (sym (same_now clean is_open)) has;
              holds = subst (λ (db : Database). HoldsOwnBook o db.trees) (sym (same_now clean is_open)) holds;
            };
          }

      rests_by : (z : Result (Unit {0}) OpenFault) → (HasCleanDisk new → OnOk z (HoldsOne o old.now.trees)) → OnOk z ∥ Rests o new ∥₁
      rests_by (Ok x) found = rests_from (new.is_clean && new.is_open) (IsAtRest o new) (λ live. ∥∥₁_map (found (clean_is new.is_clean (first_true new.is_clean new.is_open live))) (at_rest live))
      rests_by (Err e) found = tt

      told_by : (z : Result (Unit {0}) OpenFault) → old.now ≡ old.committed → IfErr z (TellsOfficeIn 3 o old.now) → IfErr z (λ e. e ≡ Damaged → ¬ HoldsOwnBook o old.now.trees) → IfErr z (TellsDatabase o old.committed)
      told_by (Ok x) same says damage = tt
      told_by (Err e) same says damage = subst (λ (db : Database). TellsDatabase o db e) same (told_of_layout o old.now e has says damage)

      held_by : (z : Result (Unit {0}) OpenFault) → old.now ≡ old.committed → OnOk z (HoldsOne o old.now.trees) → ShowsAs old.committed new → OnOk z (HoldsOne o old.committed.trees × ShowsAs old.committed new)
      held_by (Ok x) same found shows = (subst (λ (db : Database). HoldsOne o db.trees) same found, shows)
      held_by (Err e) same found shows = tt

-- one of an older layout that is taken over, or is not
pub opens_taken : (o : Office) (layout : OlderLayout) (old new : State) (r : Result (Unit {0}) OpenFault) → HasOlder layout old.now → TakesOver o layout old new r → FailsTaking (HasOlder layout) old new r → Opens o old new r
opens_taken o layout old new r was takes medium = record {
  rests = rests_by r (λ clean. takes.taken clean was);
  begun = λ clean is_open bare. absurd (not_older layout old.now (subst IsBare (sym (takes.settled is_open)) bare) was);
  audited = λ clean is_open has. absurd (older_apart layout old.now was (subst HasLayout (sym (takes.settled is_open)) has));
  taken = λ clean is_open other also. taken_by r clean is_open other (subst (HasOlder other) (sym (takes.settled is_open)) also) (takes.taken clean was);
  known = λ clean is_open. on_ok r (inr (inr (layout, subst (HasOlder layout) (takes.settled is_open) was)));
  unchanged = takes.neither;
  err = λ clean is_open. told_by r (takes.settled is_open) (takes.err clean was) (takes.damaged clean was);
  medium = λ clean is_open. medium clean was;
  crash = record {
    clean = takes.survives.clean;
    shield = takes.survives.shield;
    counts = takes.survives.counts;
    limit = takes.survives.limit;
    closes = takes.survives.closes;
    crash = λ clean db left. elim (takes.survives.crash clean db left) [ inl before ↦ inl before | inr left_so ↦ inr (inr (layout, was, left_so was)) ];
  };
}
  where
    at_rest : TakesOffice o layout old.now new.now tt × (new.now ≡ new.committed) → HoldsOwnBook o new.now.trees → IsAtRest o new
    at_rest taken holds = record { same = taken.1; kept = record { layout = taken.0.1.0; holds = holds } }

    rests_by : (z : Result (Unit {0}) OpenFault) → (HasCleanDisk new → OnOk z (TakesOffice o layout old.now new.now tt × (new.now ≡ new.committed))) → OnOk z ∥ Rests o new ∥₁
    rests_by (Ok x) taken = rests_from (new.is_clean && new.is_open) (IsAtRest o new) (λ live.
        let done = taken (clean_is new.is_clean (first_true new.is_clean new.is_open live)) in
        ∥∥₁_map done.0.1.1.1 (at_rest done))
    rests_by (Err e) taken = tt

    taken_by : (z : Result (Unit {0}) OpenFault) → HasCleanDisk new → IsTrue old.is_open → (other : OlderLayout) → HasOlder other old.now → OnOk z (TakesOffice o layout old.now new.now tt × (new.now ≡ new.committed)) → OnOk z (IsTakenOver o other old.committed new)
    taken_by (Ok x) clean is_open other also done =
        subst (λ (db : Database). IsTakenOver o other db new) (takes.settled is_open)
        (subst (λ (l : OlderLayout). IsTakenOver o l old.now new) (older_once layout other old.now was also)
        (record { registered = done.0.0; takes = done.0.1.1; newest = done.0.1.0; committed = done.1 }))
    taken_by (Err e) clean is_open other also done = tt

    told_by : (z : Result (Unit {0}) OpenFault) → old.now ≡ old.committed → IfErr z (TellsOfficeIn (number_of layout) o old.now) → IfErr z (λ e. e ≡ Damaged → ¬ HoldsOlder o layout old.now.trees) → IfErr z (TellsDatabase o old.committed)
    told_by (Ok x) same says damage = tt
    told_by (Err e) same says damage = subst (λ (db : Database). TellsDatabase o db e) same (told_of_older o layout old.now e was says damage)

-- what was found to be something else is of no older layout
pub found_no_older : (db : Database) → IsFound db kind.Other → (layout : OlderLayout) → HasOlder layout db → ⊥
found_no_older db is older.First was = is.2 was
found_no_older db is older.Second was = is.3 was

pub no_failure : Schema ≢ Store
no_failure is = cc

-- one that has something else
pub opens_other : (o : Office) (s : State) (err : OpenFault) → err ≢ Store → (IsTrue s.is_open → s.now ≡ s.committed) → TellsDatabase o s.now err → Opens o s s (Err err)
opens_other o s err other settled says = record {
  rests = tt;
  begun = λ clean is_open bare. tt;
  audited = λ clean is_open has. tt;
  taken = λ clean is_open layout was. tt;
  known = λ clean is_open. tt;
  unchanged = λ clean is_open. (settled is_open, refl);
  err = λ clean is_open. subst (λ (db : Database). TellsDatabase o db err) (settled is_open) says;
  medium = λ clean is_open is. absurd (other is);
  crash = record { clean = omega arith; shield = λ h. h; counts = omega arith; limit = refl; closes = λ clean is. inl is; crash = λ clean db h. inl h };
}

-- where tables are there nothing is begun, so a crash leaves what it left before, or what older ones become
pub survives_there : (o : Office) (old new : State) → (IsBare old.now → ⊥) → SurvivesOpening o old new → SurvivesTaking o old new
survives_there o old new never s = record {
  clean = s.clean;
  shield = s.shield;
  counts = s.counts;
  limit = s.limit;
  closes = s.closes;
  crash = λ clean db left. elim (s.crash clean db left) [
    | inl before ↦ inl before
    | inr (inl made) ↦ absurd (never made.0)
    | inr (inr taken) ↦ inr taken
  ];
}

pub survives_same : (s : State) (Left : Trees → Type 0) → Survives s s Left
survives_same s Left = record { clean = omega arith; shield = λ h. h; counts = omega arith; limit = refl; closes = λ clean is. inl is; crash = λ clean db h. inl h }

-- what was found is not bare
pub found_there : (db : Database) (what : Found) → IsFound db what → what ≢ kind.Nothing → IsBare db → ⊥
found_there db kind.Nothing is other bare = other refl
found_there db kind.Layout is other bare = not_both db bare is
found_there db (kind.Older layout) is other bare = not_older layout db bare is
found_there db kind.Other is other bare = is.0 bare

-- Where tables are there, what is opened was of layout 3, or is taken over.
pub audited_there : {X E : Type 0} (o : Office) (old : State) (r : Result X E) (new : X → State) → (IsBare old.now → ⊥) → (IsTrue old.is_open → old.now ≡ old.committed)
    → IfOk r (λ t. HasCleanDisk (new t) → IsTrue old.is_open → IsOpenable old.committed)
    → IfOk r (λ t. HasCleanDisk (new t) → IsTrue old.is_open → HasLayout old.committed → HoldsOne o old.committed.trees × ShowsAs old.committed (new t))
    → IfOk r (λ t. HasCleanDisk (new t) → IsTrue old.is_open → (layout : OlderLayout) → HasOlder layout old.committed → IsTakenOver o layout old.committed (new t))
    → IfOk r (λ t. FindsOffice o old (new t))
audited_there o old (Ok t) new never settled known audited taken = λ clean is_open. elim (known clean is_open) [
  | inl bare ↦ absurd (never (subst IsBare (sym (settled is_open)) bare))
  | inr (inl has) ↦ inl (has, (audited clean is_open has).0, (audited clean is_open has).1)
  | inr (inr older) ↦ inr (older.0, older.1, taken clean is_open older.0 older.1)
]
audited_there o old (Err e) new never settled known audited taken = tt

-- what is never told is told with anything
pub err_empty : {X C : Type 0} (P : C → Type 0) (r : Result X (OpenFault × C)) → IfErr r (λ e. e.0 ≢ Empty) → IfErr r (λ e. e.0 ≡ Empty → P e.1)
err_empty P (Ok x) never = tt
err_empty P (Err e) never = λ is. absurd (never is)

-- so it is whatever the opening came to
pub survived_there : {X E : Type 0} (o : Office) (old : State) (r : Result X E) (new : X → State) (back : E → State) → (IsBare old.now → ⊥)
    → MatchResult r (λ t. SurvivesOpening o old (new t)) (λ e. SurvivesOpening o old (back e)) → MatchResult r (λ t. SurvivesTaking o old (new t)) (λ e. SurvivesTaking o old (back e))
survived_there o old (Ok t) new back never s = survives_there o old (new t) never s
survived_there o old (Err e) new back never s = survives_there o old (back e) never s
