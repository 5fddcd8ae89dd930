use Rattle.std.proofs.Common.{◌∙◌, ◌++◌, ◌∷◌, ◌<◌, ℕ, [], List, ap, arith, length, refl, take}
use Rattle.std.proofs.lemmas.Option.{slice_get_read}
use Rattle.sqlite_value.specs.Order.{Row}
use Rattle.society_book.specs.DerivedRows.{credit_row}
use Rattle.society_closings.specs.Closings.{lines_from}
use Rattle.society_closings.proofs.lemmas.money.PoolWrites.{lines_to, mapped_at}
use Rattle.society_closings.proofs.credit_lines.line_rows.Goals as goal
use Rattle.work_ids.specs.Account.{account_text}

pub loop-index-preserved : goal.loop-index-preserved
loop-index-preserved c = λ same.
    let credits = c.args.credits.now in
    let texts = c.args.texts.now in
    let i = c.loop-index.index in
    let x = c.index-credits-index.result in
    let here : i < length credits = omega (arith, c.loop-index-test.true) in
    let there = c.in-Some.ensures.lookup in
    let text = c.in-Some.text.now in
    let said = mapped_at (λ t. t.items) (λ y. account_text y.account) texts credits i text x same
    (slice_get_read texts (length texts) i text refl there.3.0 there.1) (slice_get_read credits (length credits) i x refl here c.index-credits-index.is) in
    c.in_ok-append_line.ensures (c.as_slice.ensures.value ∙ said)
    ∙ ap (λ (l : List Row). l ++ credit_row c.args.pool c.in_ok-line.line x ∷ []) (c.loop-index.invariant same)
    ∙ ap (λ (k : ℕ). lines_from c.args.pool c.args.first (take i credits) ++ credit_row c.args.pool k x ∷ []) c.in_ok-line.ensures.after
    ∙ lines_to c.args.pool c.args.first credits i x here c.index-credits-index.is
