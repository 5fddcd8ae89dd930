use Rattle.std.proofs.Common.{◌≡◌, ◌∙◌, ◌≤◌, None, Ok, Option, Some, ℕ, ap, arith, length, sym}
use Rattle.society_book.proofs.lemmas.shown.FrontRows.{few_shown, none_shown, one_shown}
use Rattle.society_book.proofs.senders.shown_front.Goals as goal

the_same : (x y : ℕ) → Some x ≡ Some y → x ≡ y
the_same x y e = cc

not_some : (x : ℕ) → ◌≡◌ {A = Option ℕ} None (Some x) → ⊥
not_some x e = cc

pub returns-in-empty-clause-exact : goal.returns-in-empty-clause-exact
returns-in-empty-clause-exact c n small shows = ap Ok (none_shown n c.args.rows.now shows (omega (arith, c.in-empty.len_below)))

pub returns-in-Some-clause-exact : goal.returns-in-Some-clause-exact
returns-in-Some-clause-exact c n small shows =
    ap Ok (the_same c.in-Some.front n (sym c.in-Some.is ∙ c.front_said.ensures n small (one_shown n c.args.rows.now c.row-item.result shows (omega (arith, c.in-len1.len_at_least, c.in-len1.len_below)) c.row-item.is)))

pub returns-in-None-clause-exact : goal.returns-in-None-clause-exact
returns-in-None-clause-exact c n small shows =
    absurd (not_some n (sym c.in-None.is ∙ c.front_said.ensures n small (one_shown n c.args.rows.now c.row-item.result shows (omega (arith, c.in-len1.len_at_least, c.in-len1.len_below)) c.row-item.is)))

pub returns-in_default-clause-exact : goal.returns-in_default-clause-exact
returns-in_default-clause-exact c n small shows = absurd (let few = few_shown n c.args.rows.now shows in let long = c.in_default.len_at_least in omega (arith, few, long))
