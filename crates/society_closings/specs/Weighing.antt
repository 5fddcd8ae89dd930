-- Versions of works that are weighed once for all pools, and what the transmissions of a database are weighed to (representation).
use Rattle.std.specs.Prelude.{ℕ, ◌≡◌, ◌++◌, ◌⊎◌, Bool, List, [], Option, Some, None, flat_map, if◌then◌else◌, option_map, true, unwrap_or}
use Rattle.std.specs.BTreeMap as tree
use Rattle.std.specs.BTreeSet.{contains}
use Rattle.cwr_files.specs.Contents.{transactions_of, transmission_in}
use Rattle.cwr_files.specs.declared.transmission.Transaction.{Transaction}
use Rattle.share_rules.specs.declared.kind.Kind.{Kind}
use Rattle.share_rules.specs.declared.kind.Kind.TheVariants.{Performing, Mechanical}
use Rattle.share_rules.specs.declared.office.Office.{Office}
use Rattle.society_book.specs.Shown.{ShowBody}
use Rattle.society_book.specs.Sources.{HoldsWorks}
use Rattle.society_core.specs.Book.{Book}
use Rattle.society_core.specs.Candidates.{Claimant, claimants_among, claimants_naming, transactions_sent}
use Rattle.society_core.specs.Keys.{bytes_cmp, transmission_cmp}
use Rattle.society_core.specs.Owners.{is_at}
use Rattle.society_core.specs.Points.{is_tallied}
use Rattle.society_core.specs.Pools.{holders_of}
use Rattle.society_core.specs.declared.candidates.Weighing.{Weighing}
use Rattle.society_core.specs.declared.transmission_key.TransmissionKey.{TransmissionKey}
use Rattle.society_closings.specs.CutWorks.{chosen_at, works_chosen}
use Rattle.society_closings.specs.declared.chosen.Chosen.{Chosen}
use Rattle.society_closings.specs.declared.pool_works.PoolWorks.{PoolWorks}
use Rattle.society_closings.specs.declared.weighed_works.WeighedWorks.{WeighedWorks}
use Rattle.society_closings.specs.declared.weighing.WeighedVersion.{WeighedVersion}
use Rattle.sqlite_trees.specs.Tree.{Trees}
use Rattle.sqlite_value.specs.Order.{Row}

-- the works for which a version's candidates for a recording stand, where it is the version that is chosen of its work
abbrev pub claimants_by : Chosen → ℕ → List ℕ → WeighedVersion → List Claimant
claimants_by chosen number isrc version = if is_at number version.place (chosen_at chosen version.work) then claimants_among version.candidates.items isrc else []

-- so of some versions, in order
abbrev pub claimants_chosen : Chosen → ℕ → List ℕ → List WeighedVersion → List Claimant
claimants_chosen chosen number isrc versions = flat_map (claimants_by chosen number isrc) versions

-- versions are weighed of these transactions of a sender more, from a place on: whatever is chosen of the transactions, the versions that are chosen make the same claimants of these recordings
abbrev pub WeighsMore : Kind → Office → (List ℕ → Bool) → List ℕ → ℕ → List Transaction → List WeighedVersion → List WeighedVersion → Type 0
WeighsMore kind office of_these sender place transactions old new =
    (chosen : Chosen) (number : ℕ) (isrc : List ℕ) → of_these isrc ≡ true
    → claimants_chosen chosen number isrc new ≡ claimants_chosen chosen number isrc old ++ claimants_naming (holders_of kind office) (works_chosen chosen sender number place transactions) isrc

-- so in the right, at the office and for the recordings by which it is weighed
abbrev pub WeighsBy : Weighing → List ℕ → ℕ → List Transaction → List WeighedVersion → List WeighedVersion → Type 0
WeighsBy weighing sender place transactions old new = WeighsMore weighing.kind weighing.office.now (is_tallied weighing.tally.now) sender place transactions old new

-- the versions that are weighed of a transmission, none where it is not weighed
abbrev pub versions_at : WeighedWorks → TransmissionKey → Option (List WeighedVersion)
versions_at weighed key = option_map (λ versions. versions.items) (tree.get transmission_cmp weighed.transmissions key)

-- of each book whose works the tables have, each transmission that is weighed is so in a right, for these recordings
abbrev pub AreWeighed : Kind → Office → (List ℕ → Bool) → Trees → WeighedWorks → Type 0
AreWeighed kind office of_these db weighed =
    (book : Book) → HoldsWorks office book db → (key : TransmissionKey) (versions : List WeighedVersion) → versions_at weighed key ≡ Some versions
    → WeighsMore kind office of_these key.sender 0 (transactions_sent book key.sender key.number) [] versions

-- where they were so, by what weighs them, they are so with what is weighed more
abbrev pub StaysWeighed : Weighing → Trees → WeighedWorks → WeighedWorks → Type 0
StaysWeighed weighing db old new = AreWeighed weighing.kind weighing.office.now (is_tallied weighing.tally.now) db old → AreWeighed weighing.kind weighing.office.now (is_tallied weighing.tally.now) db new

-- each transmission that is lent is weighed
abbrev pub AreLent : Kind → Office → (List ℕ → Bool) → Trees → Option WeighedWorks → Type 0
AreLent kind office of_these db None = Unit {0}
AreLent kind office of_these db (Some weighed) = AreWeighed kind office of_these db weighed

-- these are the versions of a transmission, weighed, wherever what is lent is so
abbrev pub LendsVersions : Option WeighedWorks → TransmissionKey → List WeighedVersion → Type 0
LendsVersions weighed key versions =
    (kind : Kind) (office : Office) (of_these : List ℕ → Bool) (db : Trees) (book : Book) → AreLent kind office of_these db weighed → HoldsWorks office book db
    → WeighsMore kind office of_these key.sender 0 (transactions_sent book key.sender key.number) [] versions

-- those of a right
abbrev pub weighed_of : PoolWorks → Kind → WeighedWorks
weighed_of works Performing = works.performing
weighed_of works Mechanical = works.mechanical

-- what is weighed of the works of pools is so in each right, for the recordings that it is for
abbrev pub AreWorksWeighed : Office → Trees → PoolWorks → Type 0
AreWorksWeighed office db works = (kind : Kind) → AreWeighed kind office (contains bytes_cmp (weighed_of works kind).recordings) db (weighed_of works kind)

-- what is weighed was so before, or it is the transmission of this key, weighed of the body that the rows show
abbrev pub KeepsShown : Weighing → TransmissionKey → List Row → WeighedWorks → WeighedWorks → Type 0
KeepsShown weighing key rows old new =
    (other : TransmissionKey) (versions : List WeighedVersion) → versions_at new other ≡ Some versions
    → (versions_at old other ≡ Some versions)
    ⊎ ((other ≡ key)
    × ((kept : Option (List ℕ)) → ShowBody kept rows → WeighsBy weighing key.sender 0 (transactions_of (transmission_in (unwrap_or kept []))) [] versions))
