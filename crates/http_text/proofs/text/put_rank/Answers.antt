use Rattle.std.proofs.Common.{◌++◌, List, ℕ, ap, sym, ◌∙◌, arith}
use Rattle.std.specs.Prelude.{codes, decimal}
use Rattle.http_text.proofs.lemmas.NumberTextLemmas.{plain_text, year_text}
use Rattle.http_text.proofs.lemmas.TextLemmas.{join_three}
use Rattle.http_text.proofs.text.put_rank.Goals as goal

pub returns-then-rank-lt-FIRST_YEAR-clause-items : goal.returns-then-rank-lt-FIRST_YEAR-clause-items
returns-then-rank-lt-FIRST_YEAR-clause-items c =
    c.put_number.ensures.items ∙ ap (λ (v : List ℕ). c.args.out.now.items ++ v) (ap decimal c.from.ensures ∙ sym (plain_text c.args.rank (omega arith)))

pub returns-clause-items : goal.returns-clause-items
returns-clause-items c =
    join_three c.args.out.now.items (codes "\"") _ (codes "\"") _ _ _ c.put.ensures.items c.put-2.ensures.items c.put-3.ensures.items
    ∙ ap (λ (v : List ℕ). c.args.out.now.items ++ v) (ap (λ (v : List ℕ). codes "\"" ++ v ++ codes "\"") c.dated_text_of.ensures ∙ sym (year_text c.args.rank (omega arith)))
