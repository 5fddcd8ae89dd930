use Rattle.std.proofs.Common.{◌∙◌, List, Vec, ap, map, sum}
use Rattle.std.specs.Global.{Global}
use Rattle.pool_split.specs.Credits.{credits_together, units_of}
use Rattle.pool_split.specs.declared.claim.Credit.{Credit}
use Rattle.pool_split.proofs.lemmas.Parts.{if_ok_both}
use Rattle.pool_split.proofs.lemmas.Whole.{credits_add}
use Rattle.pool_split.proofs.crediting.credits.Goals as goal

pub returns-clause-credits : goal.returns-clause-credits
returns-clause-credits c =
    if_ok_both c.credits_together.result c.credits_together.ensures c.credits_together.ensures
    (λ (list : Vec Credit Global) is _. is ∙ ap credits_together c.deref.ensures.value ∙ c.in_ok-portions.ensures)

pub returns-clause-whole : goal.returns-clause-whole
returns-clause-whole c =
    if_ok_both c.credits_together.result c.credits_together.ensures c.credits_together.ensures
    (λ (list : Vec Credit Global) is _. ap (λ (cs : List Credit). sum (map units_of cs)) (is ∙ ap credits_together c.deref.ensures.value ∙ c.in_ok-portions.ensures) ∙ credits_add c.args.amount c.args.claims.now c.requires.payable)
