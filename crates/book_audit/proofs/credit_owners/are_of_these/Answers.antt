use Rattle.std.proofs.Common.{◌∙◌, refl, subst, sym}
use Rattle.std.proofs.lemmas.Bool.{false≢true}
use Rattle.std.proofs.lemmas.List.{take_all, take_more}
use Rattle.std.specs.List.{AllByRecursion}
use Rattle.sqlite_keyed.proofs.ListLemmas.{all-append}
use Rattle.sqlite_trees.proofs.ListLemmas.{all-get_or}
use Rattle.book_audit.specs.Credits.{IsCreditOf}
use Rattle.book_audit.proofs.credit_owners.are_of_these.Goals as goal

pub returns-then-not-is_of_one : goal.returns-then-not-is_of_one
returns-then-not-is_of_one c =
    let P = IsCreditOf c.args.pools.now in (
      λ no. absurd (false≢true no),
      λ all. sym c.if-not-is_of_one.true ∙ c.is_of_one.ensures.1 (subst P (sym c.row-item.is) (all-get_or P c.args.rows.now c.loop-row.row-index c.row-item.result all c.loop-row-test.true)),
    )

pub loop-row-preserved : goal.loop-row-preserved
loop-row-preserved c =
    let P = IsCreditOf c.args.pools.now in
    let here : P c.row-item.result = c.is_of_one.ensures.0 c.if-not-is_of_one.false in
    subst (AllByRecursion P) (sym (take_more c.args.rows.now c.loop-row.row-index c.row-item.result c.loop-row-test.true))
    (all-append P _ _ c.loop-row.invariant (subst P c.row-item.is here, tt))

pub returns : goal.returns
returns c =
    let P = IsCreditOf c.args.pools.now in (
      λ yes. subst (AllByRecursion P) (take_all c.loop-row.row-index c.args.rows.now c.loop-row-test.false) c.loop-row.invariant,
      λ all. refl,
    )
