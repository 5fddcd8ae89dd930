use Rattle.std.proofs.Common.{◌≡◌, ◌≤◌, length, take}
use Rattle.std.specs.List.{list_any}
use Rattle.share_rules.specs.Parties.{is_interested_party}
use Rattle.share_rules.proofs.party_search.Sought.is_among.Given as goal

abbrev pub invariant-loop-end : goal.invariant-loop-end
invariant-loop-end l = record {
  within : l.end ≤ length l.records;
  left : list_any (is_interested_party l.self.side l.self.number) (take l.end l.records) ≡ list_any (is_interested_party l.self.side l.self.number) l.records;
}

abbrev pub decreases-loop-end : goal.decreases-loop-end
decreases-loop-end l = l.end
