use Rattle.std.proofs.Common.{◌≤◌, length, drop, arith}
use Rattle.std.proofs.lemmas.Grind.{common_steps}
use Rattle.std.proofs.lemmas.List.{length-drop}
use Rattle.share_rules.proofs.lemmas.Blocks.{all_bytes, drop_bytes, key_small}
use Rattle.share_rules.proofs.party_keys.key_of.Goals as goal

pub overflow_mul-key : goal.overflow_mul-key
overflow_mul-key c =
    let l = c.loop-index in
    let left = drop l.index c.args.bytes.now in
    let short : length left ≤ 8 = omega (arith, length-drop l.index c.args.bytes.now) in
    let small = key_small c.args.side left 8 (drop_bytes c.args.bytes.now l.index (all_bytes c.args.bytes.now c.type_inv.bytes)) short in
    omega (arith, small, l.invariant.left)

pub overflow_add-key-in-loop-index : goal.overflow_add-key-in-loop-index
overflow_add-key-in-loop-index c =
    let l = c.loop-index in
    let left = drop l.index c.args.bytes.now in
    let short : length left ≤ 8 = omega (arith, length-drop l.index c.args.bytes.now) in
    let small = key_small c.args.side left 8 (drop_bytes c.args.bytes.now l.index (all_bytes c.args.bytes.now c.type_inv.bytes)) short in
    omega (arith, small, l.invariant.left, c.from.ensures)

pub returns-clause-bytes : goal.returns-clause-bytes
returns-clause-bytes c = all_bytes c.args.bytes.now c.type_inv.bytes

pub loop-index-init : goal.loop-index-init
loop-index-init c = grind (arith, common_steps)
