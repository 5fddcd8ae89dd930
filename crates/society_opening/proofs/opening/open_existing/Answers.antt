use Rattle.std.proofs.Common.{◌≡◌, ◌∙◌, refl, subst, sym}
use Rattle.std.proofs.lemmas.Bool.{false≢true}
use Rattle.sqlite.specs.Held.{state}
use Rattle.sqlite.specs.State.{HasCleanDisk}
use Rattle.society_opening.specs.Existing.{SurvivesTaking}
use Rattle.society_opening.specs.Opening.{ShowsAs}
use Rattle.society_rows.specs.NewBook.{IsBare}
use Rattle.society_opening.proofs.lemmas.opened.OpenTold.{not_both, not_older}
use Rattle.society_opening.proofs.lemmas.opened.OpenedLemmas.{audited_there, err_empty, survived_there, survives_same}
use Rattle.society_opening.proofs.opening.open_existing.Goals as goal

pub returns-then-is_bare-clause-err : goal.returns-then-is_bare-clause-err
returns-then-is_bare-clause-err g c clean is_open =
    subst IsBare (c.see_last_commit.ensures.settled is_open) (c.is_bare.ensures.0 c.if-is_bare.true)

pub returns-then-is_bare-clause-opens : goal.returns-then-is_bare-clause-opens
returns-then-is_bare-clause-opens g c clean is_open has holds =
    not_both (state g.S.Store c.args.connection).committed (subst IsBare (c.see_last_commit.ensures.settled is_open) (c.is_bare.ensures.0 c.if-is_bare.true)) has

pub returns-then-is_bare-clause-unchanged : goal.returns-then-is_bare-clause-unchanged
returns-then-is_bare-clause-unchanged g c =
    subst (λ h. HasCleanDisk (state g.S.Store h) → ShowsAs (state g.S.Store c.args.connection).committed (state g.S.Store h)) (sym c.into_connection.ensures.same)
    (λ clean is_open. (c.see_last_commit.ensures.settled is_open, refl))

pub returns-then-is_bare-clause-crash : goal.returns-then-is_bare-clause-crash
returns-then-is_bare-clause-crash g c =
    subst (λ h. SurvivesTaking c.args.office.now (state g.S.Store c.args.connection) (state g.S.Store h)) (sym c.into_connection.ensures.same) (survives_same _ _)

pub returns-clause-empty : goal.returns-clause-empty
returns-clause-empty g c is_open bare =
    let same = c.see_last_commit.ensures.settled is_open in
    absurd (false≢true (sym c.if-is_bare.false ∙ c.is_bare.ensures.1 (subst IsBare (sym same) bare)))

pub returns-clause-audited : goal.returns-clause-audited
returns-clause-audited g c =
    let settled = c.see_last_commit.ensures.settled in
    audited_there c.args.office.now (state g.S.Store c.args.connection) c.open.result (λ t. state g.S.Store t.conn)
    (λ bare. false≢true (sym c.if-is_bare.false ∙ c.is_bare.ensures.1 bare)) settled
    (rw c.into_connection-2.ensures.same at c.open.ensures.known) (rw c.into_connection-2.ensures.same at c.open.ensures.audited) (rw c.into_connection-2.ensures.same at c.open.ensures.taken)

pub returns-clause-untouched : goal.returns-clause-untouched
returns-clause-untouched g c = err_empty (λ back. back ≡ c.args.connection) c.open.result c.open.ensures.begins

pub returns-clause-crash : goal.returns-clause-crash
returns-clause-crash g c =
    survived_there c.args.office.now (state g.S.Store c.args.connection) c.open.result (λ t. state g.S.Store t.conn) (λ e. state g.S.Store e.1)
    (λ bare. false≢true (sym c.if-is_bare.false ∙ c.is_bare.ensures.1 bare)) (rw c.into_connection-2.ensures.same at c.open.ensures.crash)

pub returns-clause-err : goal.returns-clause-err
returns-clause-err g c = rw c.into_connection-2.ensures.same at c.open.ensures.err

pub returns-clause-opens : goal.returns-clause-opens
returns-clause-opens g c = rw c.into_connection-2.ensures.same at c.open.ensures.opens

pub returns-clause-medium : goal.returns-clause-medium
returns-clause-medium g c = rw c.into_connection-2.ensures.same at c.open.ensures.medium

pub returns-clause-unchanged : goal.returns-clause-unchanged
returns-clause-unchanged g c = rw c.into_connection-2.ensures.same at c.open.ensures.unchanged

pub returns-then-is_bare-clause-takes : goal.returns-then-is_bare-clause-takes
returns-then-is_bare-clause-takes g c clean is_open layout was held =
    not_older layout (state g.S.Store c.args.connection).committed (subst IsBare (c.see_last_commit.ensures.settled is_open) (c.is_bare.ensures.0 c.if-is_bare.true)) was

pub returns-clause-takes : goal.returns-clause-takes
returns-clause-takes g c = rw c.into_connection-2.ensures.same at c.open.ensures.takes
