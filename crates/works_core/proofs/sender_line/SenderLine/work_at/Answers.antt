use Rattle.std.proofs.Common.{ℕ, ◌<◌, Option, subst, sym, ◌∙◌, arith}
use Rattle.works_core.specs.Kept.{kept_line}
use Rattle.works_core.specs.LineValue.{SenderLineValue}
use Rattle.works_core.specs.Versions.{work_at}
use Rattle.works_core.proofs.lemmas.CutLemmas.{Walks, ahead, walks_start, walks_within, walks_found, walks_next, walks_nearer, walks_end}
use Rattle.works_core.proofs.sender_line.SenderLine.work_at.Goals as goal

pub loop-index-init : goal.loop-index-init
loop-index-init c =
    let inside = c.self.inside in
    let works = c.self.invariant.tracked in
    let line = kept_line inside.kept.items in
    let start = walks_start line c.args.work.now c.args.cut inside.works.versions.items c.last_index-index.result c.self.invariant.rises works.versions (c.last_index-index.ensures ∙ works.last c.args.work.now) in
    subst (λ (v : SenderLineValue). Walks c.args.cut c.args.work.now (work_at v.transmissions c.args.work.now c.args.cut) inside.works.versions.items c.last_index-index.result) c.self.view_is start

pub index-linked-requires : goal.index-linked-requires
index-linked-requires c =
    let versions = c.self.inside.works.versions in
    let walk = subst (λ (o : Option ℕ). Walks c.args.cut c.args.work.now (work_at c.args.self.now.transmissions c.args.work.now c.args.cut) versions.items o) c.in-Some.is c.loop-index.invariant in
    let within = walks_within c.args.cut c.args.work.now (work_at c.args.self.now.transmissions c.args.work.now c.args.cut) versions.items c.in-Some.at walk in
    omega (arith, versions.ok.0)

pub returns-then-value : goal.returns-then-value
returns-then-value c =
    let versions = c.self.inside.works.versions in
    let answer = work_at c.args.self.now.transmissions c.args.work.now c.args.cut in
    let walk = subst (λ (o : Option ℕ). Walks c.args.cut c.args.work.now answer versions.items o) c.in-Some.is c.loop-index.invariant in
    sym (walks_found c.args.cut c.args.work.now answer versions.items c.in-Some.at c.index-linked.result.now walk c.index-linked.ensures (omega (arith, c.if-value.true, c.value.ensures, c.value-in-Some.ensures)))

pub loop-index-smaller : goal.loop-index-smaller
loop-index-smaller c =
    let versions = c.self.inside.works.versions in
    let answer = work_at c.args.self.now.transmissions c.args.work.now c.args.cut in
    let walk = subst (λ (o : Option ℕ). Walks c.args.cut c.args.work.now answer versions.items o) c.in-Some.is c.loop-index.invariant in
    let nearer = walks_nearer c.args.cut c.args.work.now answer versions.items c.in-Some.at c.index-linked.result.now walk c.index-linked.ensures in
    subst (λ (o : Option ℕ). ahead c.index-linked.result.now.before < ahead o) (sym c.in-Some.is) nearer

pub loop-index-preserved : goal.loop-index-preserved
loop-index-preserved c =
    let versions = c.self.inside.works.versions in
    let answer = work_at c.args.self.now.transmissions c.args.work.now c.args.cut in
    let walk = subst (λ (o : Option ℕ). Walks c.args.cut c.args.work.now answer versions.items o) c.in-Some.is c.loop-index.invariant in
    walks_next c.args.cut c.args.work.now answer versions.items c.in-Some.at c.index-linked.result.now walk c.index-linked.ensures (omega (arith, c.if-value.false, c.value.ensures, c.value-in-Some.ensures))

pub returns : goal.returns
returns c =
    let versions = c.self.inside.works.versions in
    let answer = work_at c.args.self.now.transmissions c.args.work.now c.args.cut in
    let walk = subst (λ (o : Option ℕ). Walks c.args.cut c.args.work.now answer versions.items o) c.in_default.is c.loop-index.invariant in
    sym (walks_end c.args.cut c.args.work.now answer versions.items walk)
