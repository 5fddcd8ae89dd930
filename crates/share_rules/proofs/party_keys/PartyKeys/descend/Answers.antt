use Rattle.std.proofs.Common.{◌+◌, ℕ, drop, get_or, ap, ◌∙◌, sym, arith}
use Rattle.share_rules.specs.Blocks.{descend, halves}
use Rattle.share_rules.proofs.lemmas.Blocks.{no_step, room_left, step_passed, step_taken}
use Rattle.share_rules.proofs.party_keys.PartyKeys.descend.Goals as goal
use Rattle.share_rules.proofs.party_keys.PartyKeys.descend.Goals.{else-self-place, then-self-place}

pub bounds-self-place : goal.bounds-self-place
bounds-self-place c =
    let l = c.loop-step in
    let room = room_left halves l.step-index l.place 2048 (omega arith) l.invariant.room in
    omega (arith, room)

pub loop-step-preserved : goal.loop-step-preserved
loop-step-preserved c =
    let l = c.loop-step in
    let keys = c.args.self.now.keys in
    let key = c.args.key in
    let i = l.step-index in
    let step = get_or halves i 0 in
    let room = room_left halves i l.place 2048 (omega arith) l.invariant.room in
    elim c.if-self-place.branch [
      | then-self-place w ↦ record {
        room = omega (arith, room, w.place-is);
        left = ap (λ (p : ℕ). descend keys key (drop (i + 1) halves) p) w.place-is ∙ step_taken keys key halves i l.place (omega arith) w.if-self-place.true ∙ l.invariant.left;
      }
      | else-self-place w ↦ record {
        room = omega (arith, room, w.place-is);
        left = ap (λ (p : ℕ). descend keys key (drop (i + 1) halves) p) w.place-is ∙ step_passed keys key halves i l.place (omega arith) w.if-self-place.false ∙ l.invariant.left;
      }
    ]

pub returns-clause-place : goal.returns-clause-place
returns-clause-place c =
    let l = c.loop-step in
    sym (no_step c.args.self.now.keys c.args.key halves l.step-index l.place (omega arith)) ∙ l.invariant.left
