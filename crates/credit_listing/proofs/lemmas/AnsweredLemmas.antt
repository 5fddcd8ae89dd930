-- Lines are answered one after another.
use Rattle.std.proofs.Common.{◌≡◌, ◌+◌, ℕ, Bool, List, [], ◌∷◌, ◌++◌, Option, Result, Ok, Err, ap, arith, false, length, refl, subst, sym, true, zero}
use Rattle.std.specs.Prelude.{◌&&◌, is_ok}
use Rattle.std.specs.BTreeSet.{BTreeSet}
use Rattle.http_desk.specs.declared.counted.Counted.{Counted}
use Rattle.share_rules.specs.declared.office.Office.{Office}
use Rattle.society_book.specs.Shown.{ByOwnBook}
use Rattle.society_core.specs.Orders.{Order}
use Rattle.society_core.specs.declared.order_fault.OrderFault.{OrderFault}
use Rattle.society_core.specs.declared.refusal.Refusal.TheVariants as refusals
use Rattle.sqlite_trees.specs.Tree.{Trees}
use Rattle.order_credits.specs.Refused.{credit_answer, listed}
use Rattle.credit_listing.specs.Answered.{Answer, AnswersLine, AnswersSpelled, TellsAnswer, TellsLines}
use Rattle.credit_listing.specs.Spelled.{AreWanted, ReadsAs, Spelled, order_on_line}
use Rattle.credit_listing.specs.declared.order_line.OrderLine.{OrderLine}

and_true : (b : Bool) → b ≡ b && true
and_true true = refl
and_true false = refl

-- whether all of one line were answered so
and_last : (a b : Bool) → a ≡ true → a && b ≡ b && true
and_last a b is = subst (λ (x : Bool). x && b ≡ b && true) (sym is) (and_true b)

and_assoc : (b c d : Bool) → (b && c) && d ≡ b && (c && d)
and_assoc true c d = refl
and_assoc false c d = refl

-- and whether those before a line and that line were
and_on : (a b c d : Bool) → a ≡ b && c → a && d ≡ b && (c && d)
and_on a b c d is = subst (λ (x : Bool). x && d ≡ b && (c && d)) (sym is) (and_assoc b c d)

module _ (office : Office) (db : Trees) where
  -- the answer to the order that was read of a line
  answers_for : (spelled : Result Spelled OrderFault) (asked : OrderLine) (wanted : Option (BTreeSet (List ℕ))) (answer : Answer) → ReadsAs spelled (Ok asked) → wanted ≡ asked.wanted
      → ByOwnBook office (λ book told. listed told ≡ credit_answer office book asked.order wanted) db answer → AnswersSpelled office db spelled answer
  answers_for (Ok spelled) asked wanted answer reads same by =
      (wanted, subst (AreWanted spelled.1) (sym same) reads.1, subst (λ (order : Order). ByOwnBook office (λ book told. listed told ≡ credit_answer office book order wanted) db answer) reads.0 by)
  answers_for (Err fault) asked wanted answer reads same by = absurd reads

  pub answers_line : (line : List ℕ) (asked : OrderLine) (wanted : Option (BTreeSet (List ℕ))) (answer : Answer) → ReadsAs (order_on_line line) (Ok asked) → wanted ≡ asked.wanted
      → ByOwnBook office (λ book told. listed told ≡ credit_answer office book asked.order wanted) db answer → AnswersLine office line db answer
  answers_line line asked wanted answer reads same by = answers_for (order_on_line line) asked wanted answer reads same by

  -- that of a line with a fault
  refuses_for : (spelled : Result Spelled OrderFault) (fault : OrderFault) → ReadsAs spelled (Err fault) → AnswersSpelled office db spelled (Err (refusals.Order fault))
  refuses_for (Ok spelled) fault reads = absurd reads
  refuses_for (Err told) fault reads = ap (λ (f : OrderFault). Err (refusals.Order f)) reads

  pub refuses_line : (line : List ℕ) (fault : OrderFault) → ReadsAs (order_on_line line) (Err fault) → AnswersLine office line db (Err (refusals.Order fault))
  refuses_line line fault reads = refuses_for (order_on_line line) fault reads

  -- one more line
  pub tells_more : {W E : Type 0} (contents : W → Option (List ℕ)) (says : E → Option (List ℕ)) (number : ℕ) (lines : List (List ℕ)) (line : List ℕ) (all : Bool) (answer : Answer)
      (out between_out new_out : Counted W) (err between_err new_err : Counted E) → TellsLines office db contents says number lines all out between_out err between_err
      → AnswersLine office line db answer → TellsAnswer contents between_out new_out says between_err new_err (number + length lines) answer
      → TellsLines office db contents says number (lines ++ line ∷ []) (all && is_ok answer) out new_out err new_err
  tells_more {W} {E} contents says number [] line all answer out between_out new_out err between_err new_err told is tells =
      let here : number + zero ≡ number = omega arith in (
        answer,
        new_out,
        new_err,
        true,
        is,
        subst (λ (n : ℕ). TellsAnswer contents out new_out says err new_err n answer) here
            (subst (λ (o : Counted W). TellsAnswer contents o new_out says err new_err (number + zero) answer) told.0
            (subst (λ (e : Counted E). TellsAnswer contents between_out new_out says e new_err (number + zero) answer) told.1 tells)),
        and_last all (is_ok answer) told.2,
        (refl, refl, refl),
      )
  tells_more contents says number (first ∷ lines) line all answer out between_out new_out err between_err new_err told is tells =
      let next : number + length (first ∷ lines) ≡ number + 1 + length lines = omega arith in (
        told.0,
        told.1,
        told.2,
        told.3 && is_ok answer,
        told.4,
        told.5,
        and_on all (is_ok told.0) told.3 (is_ok answer) told.6,
        tells_more contents says (number + 1) lines line told.3 answer told.1 between_out new_out told.2 between_err new_err told.7 is
            (subst (λ (n : ℕ). TellsAnswer contents between_out new_out says between_err new_err n answer) next tells),
      )
