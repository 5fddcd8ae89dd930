use Rattle.std.proofs.Common.{◌∙◌, ◌||◌, ◌+◌, List, ℕ, ap, arith, bytes_eq, sym, take}
use Rattle.std.proofs.lemmas.List.Folds.{list_any_more}
use Rattle.std.specs.List.{list_any}
use Rattle.society_closings.proofs.lemmas.cuts.CutLists.{one_recording_more}
use Rattle.society_closings.proofs.works_by_recording.WorksByRecording.named_works.Goals as goal

pub loop-isrc-preserved : goal.loop-isrc-preserved
loop-isrc-preserved c =
    let works = c.args.self.now in
    let recordings = c.args.recordings.now in
    let i = c.loop-isrc.isrc-index in
    let isrc = c.isrc-item.result in
    let more = c.in_ok-note_all.ensures.more in
    let next = λ (q : List ℕ). list_any_more (bytes_eq q) recordings i isrc (omega (arith, c.loop-isrc-test.true)) ∙ ap (λ (x : List ℕ). list_any (bytes_eq q) (take i recordings) || bytes_eq q x) (sym c.isrc-item.is) in
    record {
      senders = λ s. more.senders s ∙ c.loop-isrc.invariant.senders s;
      listed = one_recording_more works c.loop-isrc.named c.note_all.new.self isrc (λ q. list_any (bytes_eq q) (take i recordings)) (λ q. list_any (bytes_eq q) (take (i + 1) recordings)) next more c.works_of.ensures.isrc
          (rw c.works_of.ensures.listed at c.in_ok-note_all.ensures.noted) c.loop-isrc.invariant.listed;
    }
