use Rattle.std.proofs.Common.{◌≡◌, ◌∙◌, ◌+◌, ◌++◌, ◌∷◌, [], ℕ, List, Ok, ap, append-nil, arith, length, refl, subst, sym, take}
use Rattle.std.proofs.lemmas.Grind.{flat_map-append}
use Rattle.std.proofs.lemmas.List.{length-append, take_all}
use Rattle.sqlite.specs.Held.{state}
use Rattle.sqlite_value.specs.Order.{Row}
use Rattle.pool_split.specs.Credits.{credits_together}
use Rattle.pool_split.specs.declared.claim.Credit.{Credit}
use Rattle.society_rows.specs.Layout.{credits_table}
use Rattle.society_rows.specs.Stored.{Adds}
use Rattle.society_rows.proofs.lemmas.changes.Adds.{adds_then}
use Rattle.society_rows.proofs.lemmas.changes.ListWrites.{adds_first}
use Rattle.society_book.proofs.lemmas.together.StepLemmas.{does_as, does_of, does_then, more}
use Rattle.society_closings.specs.Closings.{lines_from, row_of_account}
use Rattle.society_closings.proofs.lemmas.money.PoolWrites.{lines_after, take_next}
use Rattle.society_closings.proofs.lemmas.money.SameTotals.{same_behind}
use Rattle.society_closings.proofs.credit_lines.add_lines.Goals as goal

-- the credits of one portion more
together_next : (portions : List (List Credit)) (i : ℕ) (one : List Credit) → take (i + 1) portions ≡ take i portions ++ one ∷ [] → credits_together (take (i + 1) portions) ≡ credits_together (take i portions) ++ one
together_next portions i one next =
    ap credits_together next ∙ flat_map-append (λ (credits : List Credit). credits) (take i portions) (one ∷ [])
    ∙ ap (λ (l : List Credit). credits_together (take i portions) ++ l) (append-nil one)

pub loop-portion-init : goal.loop-portion-init
loop-portion-init g c =
    let here = state g.S.Store c.args.tx.now.conn.now in
    record {
      same_reference = refl;
      line = refl;
      totals = λ a. ap (λ (xs : List Credit). row_of_account xs a) c.new-totals.ensures;
      does = does_of here here (Ok tt) _ (adds_first credits_table here) (λ before after adds. adds.layout);
    }

pub loop-portion-preserved : goal.loop-portion-preserved
loop-portion-preserved g c =
    let all = c.args.portions.now in
    let i = c.loop-portion.portion-index in
    let one : List Credit = c.portion-item.result in
    let done = credits_together (take i all) in
    let its = c.in_ok-credits.ensures in
    let next = together_next all i one (take_next all i one (omega (arith, c.loop-portion-test.true)) c.portion-item.is) in
    let old = state g.S.Store c.args.tx.now.conn.now in
    let mid = state g.S.Store c.loop-portion.tx.conn.now in
    let new = state g.S.Store c.add_from.new.tx.conn.now in
    let many = ap length its in
    let lengths = ap length next ∙ length-append done one in
    record {
      same_reference = c.add_from.ensures.does.same_reference ∙ c.loop-portion.invariant.same_reference;
      line = omega (arith, c.in_ok-line.ensures.after, c.len.ensures, many, c.loop-portion.invariant.line, lengths);
      totals = λ a. c.in_ok-add.ensures a
          ∙ same_behind c.loop-portion.totals.list.items done c.as_slice-in-loop-portion.result.now one c.loop-portion.invariant.totals (λ b. ap (λ (xs : List Credit). row_of_account xs b) (c.as_slice-in-loop-portion.ensures.value ∙ its)) a
          ∙ ap (λ (xs : List Credit). row_of_account xs a) (sym next);
      does = does_then old mid new tt (Ok tt) _ _ _ c.loop-portion.invariant.does
          (rw (c.as_slice.ensures.value, its, c.loop-portion.invariant.line) at c.in_ok-add_from.ensures.does.says)
          (λ y first second. subst (λ (cs : List Credit). Adds credits_table (lines_from c.args.pool 0 cs) old.now new.now) (sym next)
          (subst (λ (rows : List Row). Adds credits_table rows old.now new.now) (sym (lines_after c.args.pool done one)) (adds_then credits_table _ _ old.now mid.now new.now first second)));
    }

pub returns : goal.returns
returns g c =
    let all = c.args.portions.now in
    let old = state g.S.Store c.args.tx.now.conn.now in
    let new = state g.S.Store c.loop-portion.tx.conn.now in
    let whole : take c.loop-portion.portion-index all ≡ all = take_all c.loop-portion.portion-index all c.loop-portion-test.false in
    record {
      does = record {
        same_reference = c.loop-portion.invariant.same_reference;
        says = does_as old new tt c.into_list.result _ _ c.loop-portion.invariant.does
            (λ adds. more c.into_list.result (λ totals same. (
              subst (λ (ps : List (List Credit)). Adds credits_table (lines_from c.args.pool 0 (credits_together ps)) old.now new.now) whole adds,
              λ a. same a ∙ c.loop-portion.invariant.totals a ∙ ap (λ (ps : List (List Credit)). row_of_account (credits_together ps) a) whole,
            )) c.into_list.ensures);
      };
    }
