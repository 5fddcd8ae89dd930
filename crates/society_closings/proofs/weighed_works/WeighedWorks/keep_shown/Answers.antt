use Rattle.std.proofs.Common.{◌≡◌, ◌∙◌, ◌⊎◌, ℕ, Bool, true, false, cond, List, [], Option, Some, Vec, Global, ap, inl, inr, option_map, refl, subst, sym, unwrap_or}
use Rattle.std.specs.BTreeMap as tree
use Rattle.std.specs.Cmp.{Equal-is}
use Rattle.std.specs.Ordering.{eq_by_cmp}
use Rattle.cwr_files.specs.Contents.{transactions_of, transmission_in}
use Rattle.society_book.specs.Shown.{ShowBody}
use Rattle.society_closings.proofs.lemmas.cuts.CutChoices.{some_is}
use Rattle.society_closings.specs.Weighing.{WeighsMore}
use Rattle.society_closings.specs.declared.weighing.WeighedVersion.{WeighedVersion}
use Rattle.society_core.proofs.lemmas.KeyOrders.{exact_transmissions}
use Rattle.society_core.specs.Keys.{transmission_cmp}
use Rattle.society_core.specs.Points.{is_tallied}
use Rattle.society_core.specs.declared.candidates.Weighing.{Weighing}
use Rattle.society_core.specs.declared.transmission_key.TransmissionKey.{TransmissionKey}
use Rattle.sqlite_value.specs.Order.{Row}
use Rattle.society_closings.proofs.weighed_works.WeighedWorks.keep_shown.Goals as goal

-- versions are weighed of the transmission that rows show
abbrev AreShown : Weighing → List ℕ → List Row → List WeighedVersion → Type 0
AreShown weighing sender rows versions = (kept : Option (List ℕ)) → ShowBody kept rows → WeighsMore weighing.kind weighing.office.now (is_tallied weighing.tally.now) sender 0 (transactions_of (transmission_in (unwrap_or kept []))) [] versions

-- at a key there are the versions that are kept, or those from before
keeps_at : (weighing : Weighing) (key other : TransmissionKey) (rows : List Row) (before : Option (Vec WeighedVersion Global)) (versions : Vec WeighedVersion Global) (some : List WeighedVersion) → AreShown weighing key.sender rows versions.items
    → (b : Bool) → eq_by_cmp transmission_cmp key other ≡ b → option_map (λ v. v.items) (cond b (Some versions) before) ≡ Some some
    → (option_map (λ v. v.items) before ≡ Some some) ⊎ ((other ≡ key) × AreShown weighing key.sender rows some)
keeps_at weighing key other rows before versions some shown true same is =
    inr (sym (exact_transmissions key other ((Equal-is (transmission_cmp key other)).0 same)), subst (AreShown weighing key.sender rows) (some_is versions.items some is) shown)
keeps_at weighing key other rows before versions some shown false same is = inl is

pub returns-in_ok-insert-in-Ok-clause-kept : goal.returns-in_ok-insert-in-Ok-clause-kept
returns-in_ok-insert-in-Ok-clause-kept c = λ other some is.
    let key = c.args.key.now in
    let before = tree.get transmission_cmp c.args.self.now.transmissions other in
    keeps_at c.args.weighing.now key other c.args.rows.now before c.in-Ok.versions some c.in-Ok.ensures.weighs (eq_by_cmp transmission_cmp key other) refl
    (sym (ap (option_map (λ v. v.items)) (c.in_ok-insert-in-Ok.ensures.updates.0 other)) ∙ is)
