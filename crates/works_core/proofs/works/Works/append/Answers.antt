use Rattle.std.proofs.Common.{◌∙◌, ◌+◌, ℕ, Some, ap, cond}
use Rattle.std.specs.BTreeMap as tree
use Rattle.std.specs.Str.{bytes_eq}
use Rattle.works_core.proofs.lemmas.EntryLemmas.{changed, keeps_entries, place_chosen}
use Rattle.works_core.specs.Tracks.{kept_index, number_cmp, place_kept}
use Rattle.works_core.proofs.works.Works.append.Goals as goal

pub returns-clause-last : goal.returns-clause-last
returns-clause-last c = λ other.
    let updates = rw c.unwrap.ensures at c.insert-entered.ensures.updates in
    ap place_kept (changed c.args.work c.args.self.now.last c.insert-entered.new.self (Some (Some c.len.result)) updates other)
    ∙ place_chosen (bytes_eq c.args.work other) (Some c.len.result) (tree.get number_cmp c.args.self.now.last other)
    ∙ ap (λ (n : ℕ). cond (bytes_eq c.args.work other) (Some n) (kept_index c.args.self.now other)) (c.len.ensures ∙ c.args.self.now.versions.ok.0)

pub returns-clause-entries : goal.returns-clause-entries
returns-clause-entries c =
    let updates = rw c.unwrap.ensures at c.insert-entered.ensures.updates in
    keeps_entries c.args.self.now (record { count = c.args.self.now.count + c.works_begun.result; last = c.insert-entered.new.self; versions = c.push.new.self }) c.args.work (Some c.len.result) updates
