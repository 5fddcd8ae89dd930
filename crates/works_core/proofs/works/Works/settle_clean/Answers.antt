use Rattle.std.proofs.Common.{ℕ, ◌+◌, ◌<◌, ◌^◌, Option, cond, List, ◌∷◌, ◌++◌, [], Some, is_some, length, if◌then◌else◌, sym, ap, ◌∙◌, arith}
use Rattle.std.specs.Str.{bytes_eq}
use Rattle.works_core.specs.Tracks.{IsTracked, accepted_in, kept_index, linked_versions}
use Rattle.works_core.specs.Versions.{judged_of, placed_at}
use Rattle.works_core.specs.declared.judged.Judged.TheVariants.{Clean}
use Rattle.works_core.specs.declared.version.LinkedVersion.{LinkedVersion}
use Rattle.works_core.specs.declared.version.WorkVersion.{WorkVersion}
use Rattle.works_core.specs.declared.works.Works.{Works}
use Rattle.works_core.proofs.lemmas.EndLemmas.{linked_is, taken}
use Rattle.works_core.proofs.lemmas.NextLemmas.{revision_within}
use Rattle.works_core.proofs.lemmas.TrackLemmas.{last_registered, last_within, last_index-accepted, linked_versions-accepted, length-linked_versions, works_in-le, works_in-taken}
use Rattle.works_core.proofs.works.Works.settle_clean.Goals as goal

-- there are not many works
few : (works : Works) → IsTracked works → works.count < 2 ^ 63
few works tracked =
    let past = tracked.past in
    let count = tracked.tracks.count in
    let most = works_in-le past in
    let versions = works.versions.ok.0 ∙ ap (λ (xs : List LinkedVersion). length xs) tracked.tracks.versions ∙ length-linked_versions past in
    omega (arith, works.versions.small, count, most, versions)

pub version_at-last-requires : goal.version_at-last-requires
version_at-last-requires c =
    let tracks = c.requires.tracked.tracks in
    record { within = last_within c.last_index-before.result c.args.work c.requires.tracked.past c.args.self.now.versions.items (c.last_index-before.ensures ∙ tracks.last c.args.work) tracks.versions }

pub next_verdict-verdict-requires-clause-revised : goal.next_verdict-verdict-requires-clause-revised
next_verdict-verdict-requires-clause-revised c =
    let past = c.requires.tracked.past in
    let tracks = c.requires.tracked.tracks in
    let is = c.last_index-before.ensures ∙ tracks.last c.args.work in
    let count = c.args.self.now.versions.ok.0 ∙ ap (λ (xs : List LinkedVersion). length xs) tracks.versions ∙ length-linked_versions past in
    revision_within c.version_at-last.result c.args.work past 9223372036854775808 (c.version_at-last.ensures past c.args.work tracks is) (omega (arith, c.args.self.now.versions.small, c.args.self.now.versions.ok))

pub next_verdict-verdict-requires-clause-counted : goal.next_verdict-verdict-requires-clause-counted
next_verdict-verdict-requires-clause-counted c = few c.args.self.now c.requires.tracked

pub append-requires-clause-few : goal.append-requires-clause-few
append-requires-clause-few c = few c.args.self.now c.requires.tracked

pub returns-in-Accepted-clause-tracks : goal.returns-in-Accepted-clause-tracks
returns-in-Accepted-clause-tracks c = λ past tracks.
    let work = c.args.work in
    let t = placed_at c.args.place.transmission c.args.place.place (Clean c.args.kind work) in
    let is = c.last_index-before.ensures ∙ tracks.last work in
    let told = c.next_verdict-verdict.ensures.verdict past (c.version_at-last.ensures past work tracks is) tracks.count in
    let known = taken (judged_of past) (Clean c.args.kind work) c.in-Accepted.ordinal c.in-Accepted.revision (sym told ∙ c.in-Accepted.is) in
    let index = ap (λ (xs : List LinkedVersion). length xs) tracks.versions ∙ length-linked_versions past in
    let linked : LinkedVersion = record { version = record { transmission = c.args.place.transmission; place = c.args.place.place; ordinal = c.in-Accepted.ordinal; revision = c.in-Accepted.revision }; before = c.last_index-before.result } in
    record {
      last = λ w.
          c.append.ensures.last w
          ∙ ap (λ (i : ℕ). cond (bytes_eq work w) (Some i) (kept_index c.args.self.now w)) index
          ∙ ap (cond (bytes_eq work w) (Some (accepted_in past))) (tracks.last w)
          ∙ sym (last_index-accepted past t w known.accepted);
      versions =
          c.append.ensures.versions
          ∙ ap (λ (v : WorkVersion). c.args.self.now.versions.items ++ record { version = v; before = c.last_index-before.result } ∷ []) c.version-version.ensures
          ∙ ap (λ (xs : List LinkedVersion). xs ++ linked ∷ []) tracks.versions
          ∙ ap (λ (l : LinkedVersion). linked_versions past ++ l ∷ []) (linked_is c.args.kind work past c.args.place.transmission c.args.place.place c.in-Accepted.ordinal c.in-Accepted.revision c.last_index-before.result known is)
          ∙ sym (linked_versions-accepted past t known.accepted);
      count =
          c.append.ensures.count
          ∙ ap (λ (o : Option ℕ). c.args.self.now.count + (if is_some o then 0 else 1)) c.last_index-before.ensures
          ∙ ap (λ (n : ℕ). n + (if is_some (kept_index c.args.self.now work) then 0 else 1)) tracks.count
          ∙ works_in-taken (judged_of past) c.args.kind work (kept_index c.args.self.now work) known.accepted (ap is_some (tracks.last work) ∙ last_registered work past);
    }
