use Rattle.std.proofs.Common.{◌≡◌, Ok, arith, refl, rules, subst, sym, true}
use Rattle.sqlite.proofs.Callers.{survives_begin}
use Rattle.sqlite.proofs.StateLemmas.{survives_then}
use Rattle.sqlite.specs.Held.{Held, state}
use Rattle.sqlite.specs.State.{HasCleanDisk, State, Survives}
use Rattle.sqlite_trees.specs.Tree.{Trees}
use Rattle.sqlite_trees.specs.declared.store.Store.{Ghosts}
use Rattle.share_rules.specs.declared.office.Office.{Office}
use Rattle.society_rows.specs.Layouts.{HasOlder}
use Rattle.society_rows.specs.declared.older.OlderLayout.{OlderLayout}
use Rattle.society_opening.specs.Older.{Takes}
use Rattle.society_opening.specs.TakingOver.{DoesOver, TakesOffice}
use Rattle.society_opening.specs.declared.open_fault.OpenFault.{OpenFault}
use Rattle.society_opening.proofs.taking_over.take_over.Goals as goal

-- tables that were taken over in a transaction, which is committed then: a crash leaves what it left before, or what they became
taken_survives : {S : Type 0} (g : Ghosts S) (o : Office) (l : OlderLayout) (old : Held S) (mid new : State)
    → DoesOver {X = Unit {0}} {E = OpenFault} (HasOlder l) (state g (record old { in_transaction = true })) mid (Ok tt) (TakesOffice o l)
    → Survives mid new (λ db. db ≡ mid.now.trees) → Survives (state g old) new (λ db. HasOlder l (state g old).now → Takes o l (state g old).now.trees db)
taken_survives g o l old mid new does commits =
    survives_begin g old new Leaves
    (survives_then (state g (record old { in_transaction = true })) mid new (λ _. ⊥) (λ db. db ≡ mid.now.trees) Leaves (λ clean db never. absurd never)
    (λ clean db same was. subst (λ (trees : Trees). Takes o l (state g old).now.trees trees) (sym same) (does.says (early clean) refl was).1.1)
    does.survives commits)
  where
    Leaves : Trees → Type 0
    Leaves db = HasOlder l (state g old).now → Takes o l (state g old).now.trees db

    early : HasCleanDisk new → HasCleanDisk mid
    early clean = (let fell = commits.clean in omega (clean, fell, arith))

pub returns-in_err-commit-clause-takes : goal.returns-in_err-commit-clause-takes
returns-in_err-commit-clause-takes g c =
    let o = c.args.office.now in
    let l = c.args.layout in
    let conn = c.args.conn.now in
    let mid = state g.S.Store c.take_office.new.tx.conn.now in
    let does : DoesOver {X = Unit {0}} {E = OpenFault} (HasOlder l) (state g.S.Store (record conn { in_transaction = true })) mid (Ok tt) (TakesOffice o l) = rw (c.transaction-tx.ensures.begun, c.conn.view_is) at c.in_ok-take_office.ensures.does.says in
    let survives = taken_survives g.S.Store o l conn mid _ does c.commit.ensures.survives in
    record {
      settled = search rules;
      taken = search rules;
      neither = search (rules, does.kept, does.inside);
      err = search rules;
      damaged = search rules;
      survives = search (rules, survives);
    }

pub returns-clause-takes : goal.returns-clause-takes
returns-clause-takes g c =
    let o = c.args.office.now in
    let l = c.args.layout in
    let conn = c.args.conn.now in
    let mid = state g.S.Store c.take_office.new.tx.conn.now in
    let does : DoesOver {X = Unit {0}} {E = OpenFault} (HasOlder l) (state g.S.Store (record conn { in_transaction = true })) mid (Ok tt) (TakesOffice o l) = rw (c.transaction-tx.ensures.begun, c.conn.view_is) at c.in_ok-take_office.ensures.does.says in
    let survives = taken_survives g.S.Store o l conn mid _ does c.commit.ensures.survives in
    record {
      settled = search rules;
      taken = search (rules, does.says, does.kept, does.inside);
      neither = search rules;
      err = search rules;
      damaged = search rules;
      survives = search (rules, survives);
    }
