use Rattle.std.proofs.Common.{get_or, sym, arith}
use Rattle.std.proofs.lemmas.Grind.{get_or_default_zero}
use Rattle.std.proofs.lemmas.List.Edits.{map_over_more}
use Rattle.work_ids.specs.Characters.{capital}
use Rattle.work_ids.proofs.characters.make_capitals.Goals as goal

pub loop-character-preserved : goal.loop-character-preserved
loop-character-preserved c =
    let ys = c.loop-character.characters in
    let i = c.loop-character.character-index in
    rw c.capital.ensures (map_over_more capital c.args.characters.now ys i (get_or ys i 0) (omega arith) c.loop-character.invariant (sym (get_or_default_zero ys i (get_or ys i 0) (omega arith))))
