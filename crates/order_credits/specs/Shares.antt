-- What an order credits, recording by recording, and why: the points, the part of the amount, and the owner at the cut with its holders.
use Rattle.std.specs.Prelude.{ℕ, Bool, true, false, List, [], ◌∷◌, Option, Some, None, Result, Ok, Err, bytes_eq, map, option_map, sum}
use Rattle.std.specs.BTreeSet.{BTreeSet, contains}
use Rattle.std.specs.List.{filter, find, zip}
use Rattle.cwr_files.specs.Transaction.{number_of_work}
use Rattle.pool_split.specs.Credits.{claim_credits_by, lone_credit, weights_in}
use Rattle.pool_split.specs.Split.{remainder, split_of}
use Rattle.pool_split.specs.declared.claim.Credit.{Credit}
use Rattle.share_rules.specs.declared.holder.Holder.{Holder}
use Rattle.share_rules.specs.declared.office.Office.{Office}
use Rattle.work_ids.specs.declared.fault.IdFault.{IdFault}
use Rattle.works_core.specs.declared.version.WorkVersion.{WorkVersion}
use Rattle.society_core.specs.Book.{Book, version_in}
use Rattle.society_core.specs.Keys.{bytes_cmp}
use Rattle.society_core.specs.Orders.{Order}
use Rattle.society_core.specs.Owners.{CutWork, owner}
use Rattle.society_core.specs.Points.{points_by_recording, rows_named}
use Rattle.society_core.specs.Pools.{holders_of}
use Rattle.society_core.specs.declared.transmission_key.TransmissionKey.{TransmissionKey}
use Rattle.order_credits.specs.declared.share.OwnedVersion.{OwnedVersion}
use Rattle.order_credits.specs.declared.share.RecordingShare.{RecordingShare}

-- a recording with its points
abbrev pub Played : Type 0
Played = List ℕ × ℕ

-- what the cut of an order has of a sender, if it has anything
abbrev pub key_at_cut : Order → List ℕ → Option TransmissionKey
key_at_cut order sender = find (λ key. bytes_eq key.sender sender) order.cut

-- the revision of a version, 0 where there is none
abbrev pub revision_of : Option WorkVersion → ℕ
revision_of None = 0
revision_of (Some version) = version.revision

-- the revision that a sender's work has at what the cut has of the sender
abbrev pub revision_by : Office → Book → List ℕ → Option TransmissionKey → ℕ
revision_by office book work None = 0
revision_by office book work (Some key) = revision_of (version_in office book key.sender work key.number)

-- the revision that a sender's work has at the cut of an order, 0 where it has no version there
abbrev pub revision_at_cut : Office → Book → Order → List ℕ → List ℕ → ℕ
revision_at_cut office book order sender work = revision_by office book work (key_at_cut order sender)

-- the number of a work, none where a transaction has none
abbrev pub work_named : Result (List ℕ) IdFault → List ℕ
work_named (Ok work) = work
work_named (Err fault) = []

-- a work of the cut of an order by its version there: whose it is, which one, which of its revisions, and its holders with their weights in the order's right
abbrev pub version_owned : Office → Book → Order → CutWork → OwnedVersion
version_owned office book order work = record {
  sender = work.sender;
  work = work_named (number_of_work work.transaction);
  revision = revision_at_cut office book order work.sender (work_named (number_of_work work.transaction));
  holders = holders_of order.kind office work;
}

-- the version that owns a recording at the cut of an order, none where no work or more than one names it there (profile)
abbrev pub owner_at_cut : Office → Book → Order → List ℕ → Option OwnedVersion
owner_at_cut office book order isrc = option_map (version_owned office book order) (owner office book order isrc)

-- the parts of units: of each holder of the version that owns the recording, in order, by the weights; all of them where nobody owns it
abbrev pub parts_owned : ℕ → Option OwnedVersion → List ℕ
parts_owned units None = units ∷ []
parts_owned units (Some owned) = split_of units (weights_in owned.holders)

-- the points of recordings
abbrev pub points_played : List Played → List ℕ
points_played played = map (λ p. p.1) played

-- the share of a recording that has a part of the amount, of so many points in all
abbrev pub recording_share : Office → Book → Order → ℕ → Played × ℕ → RecordingShare
recording_share office book order total paid = record {
  isrc = Some paid.0.0;
  points = paid.0.1;
  units = paid.1;
  remainder = remainder order.amount total paid.0.1;
  owner = owner_at_cut office book order paid.0.0;
  parts = parts_owned paid.1 (owner_at_cut office book order paid.0.0);
}

-- the share of a pool in which nothing was played: all of the amount, of no recording
abbrev pub share_of_nothing : Order → RecordingShare
share_of_nothing order = record { isrc = None; points = 0; units = order.amount; remainder = 0; owner = None; parts = order.amount ∷ [] }

-- the shares of these recordings: each has its part of the amount, which is split over them by their points
abbrev pub recording_shares_by : Office → Book → Order → List Played → List RecordingShare
recording_shares_by office book order [] = share_of_nothing order ∷ []
recording_shares_by office book order (first ∷ more) =
    map (recording_share office book order (sum (points_played (first ∷ more)))) (zip (first ∷ more) (split_of order.amount (points_played (first ∷ more))))

-- what an order credits, recording by recording, ascending by ISRC (profile)
unfoldable pub recording_shares : Office → Book → Order → List RecordingShare
recording_shares office book order = recording_shares_by office book order (points_by_recording (rows_named book order))

-- the credits of units for a recording, by the version that owns it
abbrev pub credits_owned : Option (List ℕ) → Option OwnedVersion → ℕ → List Credit
credits_owned (Some isrc) owner units = claim_credits_by isrc (option_map (λ owned. owned.holders) owner) units
credits_owned None owner units = lone_credit None units

-- the credits of a share: one for each holder of its owner, in order, or one to nobody
abbrev pub share_credits : RecordingShare → List Credit
share_credits share = credits_owned share.isrc share.owner share.units

-- whether a share is wanted: of all recordings, or of those that are named
abbrev pub is_wanted : Option (BTreeSet (List ℕ)) → Option (List ℕ) → Bool
is_wanted None isrc = true
is_wanted (Some wanted) (Some isrc) = contains bytes_cmp wanted isrc
is_wanted (Some wanted) None = false

-- those of some shares that are wanted
abbrev pub shares_wanted : Option (BTreeSet (List ℕ)) → List RecordingShare → List RecordingShare
shares_wanted wanted shares = filter (λ share. is_wanted wanted share.isrc) shares
