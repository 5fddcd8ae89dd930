use Rattle.std.proofs.Common.{◌≡◌, drop}
use Rattle.share_rules.specs.Parties.{collected, last_counting}
use Rattle.share_rules.proofs.lemmas.Nearest.{rows_among, up_to_next}
use Rattle.share_rules.specs.Steps.{shares_or}
use Rattle.share_rules.proofs.collecting.collection_shares.Given as goal

abbrev pub invariant-loop-record : goal.invariant-loop-record
invariant-loop-record l = shares_or l.shares (last_counting l.office (rows_among l.party.side l.party.number (up_to_next l.party.side l.party.number (drop l.record-index l.after)))) ≡ collected l.office (record { party = l.party; after = l.after })
