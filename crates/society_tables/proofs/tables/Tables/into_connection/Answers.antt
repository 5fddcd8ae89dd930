use Rattle.std.proofs.Common.{IsTrue, subst, sym}
use Rattle.std.proofs.Math.Logic.{∥∥₁_map}
use Rattle.sqlite.specs.Held.{state}
use Rattle.sqlite.specs.State.{HasCleanDisk}
use Rattle.society_book.specs.Kept.{IsAtRest}
use Rattle.society_book.proofs.lemmas.shown.AskLemmas.{clean_is, first_true, second_true}
use Rattle.society_tables.proofs.tables.Tables.into_connection.Goals as goal

pub returns-clause-live : goal.returns-clause-live
returns-clause-live g c live =
    let s = state g.S.Store c.args.self.conn in
    subst (λ h. HasCleanDisk (state g.S.Store h) × IsTrue (state g.S.Store h).is_open) (sym c.into_connection.ensures.same)
    (clean_is s.is_clean (first_true s.is_clean s.is_open live), second_true s.is_clean s.is_open live)

pub returns-clause-rests : goal.returns-clause-rests
returns-clause-rests g c live =
    subst (λ h. ∥ IsAtRest c.args.self.office (state g.S.Store h) ∥₁) (sym c.into_connection.ensures.same) (∥∥₁_map c.args.self.rests (λ r. r live))
