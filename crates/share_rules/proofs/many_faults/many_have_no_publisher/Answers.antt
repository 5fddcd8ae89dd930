use Rattle.std.proofs.Common.{◌≡◌, ◌≤◌, ℕ, Bool, ◌||◌, List, drop, sym, ap, ◌∙◌, slice_range, arith}
use Rattle.std.specs.List.{list_any}
use Rattle.std.proofs.lemmas.List.Folds.{drop_split, list_any-append}
use Rattle.cwr_records.specs.declared.record.Record.{Record}
use Rattle.share_rules.specs.Fault.{names_no_publisher}
use Rattle.share_rules.proofs.many_faults.many_have_no_publisher.Goals as goal

parted : (f : Record → Bool) (rs : List Record) (start end : ℕ) → start ≤ end → list_any f (drop start rs) ≡ (list_any f (slice_range rs start end) || list_any f (drop end rs))
parted f rs start end h = ap (list_any f) (drop_split rs start end h) ∙ list_any-append f (slice_range rs start end) (drop end rs)

pub returns-then-block_has_no_publisher : goal.returns-then-block_has_no_publisher
returns-then-block_has_no_publisher c =
    let rs = c.args.records.now in
    let f = names_no_publisher rs in
    let end = c.min-end.result in
    let e = parted f rs c.loop-start.start end (omega (arith, c.min-end.ensures, c.saturating_add.ensures)) in
    let block = c.block_has_no_publisher.ensures in
    let was = c.if-block_has_no_publisher.true in
    sym (sym c.loop-start.invariant.same ∙ e ∙ ap (λ (b : Bool). b || list_any f (drop end rs)) (sym block ∙ was))

pub loop-start-preserved : goal.loop-start-preserved
loop-start-preserved c =
    let rs = c.args.records.now in
    let f = names_no_publisher rs in
    let end = c.min-end.result in
    let e = parted f rs c.loop-start.start end (omega (arith, c.min-end.ensures, c.saturating_add.ensures)) in
    let block = c.block_has_no_publisher.ensures in
    let was = c.if-block_has_no_publisher.false in
    record {
      within = omega (arith, c.min-end.ensures, c.saturating_add.ensures);
      same = sym (ap (λ (b : Bool). b || list_any f (drop end rs)) (sym block ∙ was)) ∙ sym e ∙ c.loop-start.invariant.same;
    }
