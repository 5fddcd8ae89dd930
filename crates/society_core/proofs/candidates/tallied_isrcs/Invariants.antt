use Rattle.std.proofs.Common.{◌≡◌, ℕ, List, true, take}
use Rattle.std.specs.BTreeSet.{contains}
use Rattle.society_core.specs.Candidates.{ListsOnce}
use Rattle.society_core.specs.Keys.{bytes_cmp}
use Rattle.society_core.specs.Points.{is_tallied}
use Rattle.society_core.proofs.lemmas.CandidateLemmas.{is_among}
use Rattle.society_core.proofs.candidates.tallied_isrcs.Given as goal

-- of each recording of the tally it is known whether it was named so far, and where it was it is listed once
abbrev pub invariant-loop-isrc : goal.invariant-loop-isrc
invariant-loop-isrc l = record {
  seen : (x : List ℕ) → is_tallied l.tally x ≡ true → contains bytes_cmp l.seen x ≡ is_among x (take l.isrc-index l.isrc-items);
  listed : ListsOnce (is_tallied l.tally) (take l.isrc-index l.isrc-items) l.list.items;
}
