use Rattle.std.proofs.Common.{◌≡◌, IsTrue, drop}
use Rattle.society_core.specs.Answers.{cut_refusal, first_refusal}
use Rattle.society_core.specs.State.{ChangesNothing}
use Rattle.society_core.proofs.desk.Desk.check_cut.Given as goal

-- nothing changed so far, and what is due is due of the rest
abbrev pub invariant-loop-key : goal.invariant-loop-key
invariant-loop-key g l =
    let state = g.S.Store.state in
    record {
      asks : ChangesNothing (state l.initial.self-inside.store) (state l.self-inside.store);
      due : IsTrue (state l.self-inside.store).is_clean → first_refusal (cut_refusal (state l.initial.self-inside.store).book) l.cut ≡ first_refusal (cut_refusal (state l.initial.self-inside.store).book) (drop l.key-index l.cut);
      told : IsTrue (state l.self-inside.store).is_honest → first_refusal (cut_refusal (state l.initial.self-inside.store).book) l.cut ≡ first_refusal (cut_refusal (state l.initial.self-inside.store).book) (drop l.key-index l.cut);
    }
