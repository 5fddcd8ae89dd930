-- The interested parties of a transaction, their territory rows, and what each of them collects at the office.
use Rattle.std.specs.Prelude.{ℕ, Bool, true, false, not, ◌&&◌, ◌||◌, ◌==◌, List, [], ◌∷◌, ◌++◌, Option, Some, None, is_some, unwrap_or, bytes_eq, if◌then◌else◌}
use Rattle.std.specs.List.{list_any}
use Rattle.cwr_records.specs.Blanks.{trimmed}
use Rattle.cwr_records.specs.Typed.{indicator_of, share_of, territory_of}
use Rattle.cwr_records.specs.declared.indicator.Indicator.{Indicator}
use Rattle.cwr_records.specs.declared.indicator.Indicator.TheVariants.{Included, Excluded}
use Rattle.cwr_records.specs.declared.record.Record.{Record}
use Rattle.cwr_records.specs.declared.record.Record.TheVariants as kind
use Rattle.share_rules.specs.declared.kind.Kind.{Kind}
use Rattle.share_rules.specs.declared.kind.Kind.TheVariants.{Performing, Mechanical}
use Rattle.share_rules.specs.declared.office.Office.{Office}
use Rattle.share_rules.specs.declared.party.InterestedParty.{InterestedParty}
use Rattle.share_rules.specs.declared.share_fields.ShareFields.{ShareFields}
use Rattle.share_rules.specs.declared.party.Side.{Side}
use Rattle.share_rules.specs.declared.party.Side.TheVariants as side
use Rattle.share_rules.specs.declared.territory_row.TerritoryRow.{TerritoryRow}
use Rattle.share_rules.specs.declared.shares.Shares.{Shares}

-- three share fields: of the performing, the mechanical and the synchronization right (CISAC CWR 2.2)
abbrev pub share_fields : List ℕ → List ℕ → List ℕ → ShareFields
share_fields pr mr sr = record { performing = pr; mechanical = mr; synchronization = sr }

-- the interested party that a record is: SPU or OPU a publisher, SWR or OWR a writer (CISAC CWR 2.2)
abbrev pub party_in : Record → Option InterestedParty
party_in (kind.Publisher r) = Some (record { side = side.Publisher; number = r.party; ipi_name = r.ipi_name; shares = share_fields r.pr_share r.mr_share r.sr_share })
party_in (kind.Writer r) = Some (record { side = side.Writer; number = r.party; ipi_name = r.ipi_name; shares = share_fields r.pr_share r.mr_share r.sr_share })
party_in _ = None

-- the territory row that a record is: SPT a publisher's, SWT a writer's (CISAC CWR 2.2)
abbrev pub row_in : Record → Option TerritoryRow
row_in (kind.PublisherTerritory r) = Some (record { side = side.Publisher; number = r.party; shares = share_fields r.pr_share r.mr_share r.sr_share; indicator = r.indicator; territory = r.territory })
row_in (kind.WriterTerritory r) = Some (record { side = side.Writer; number = r.party; shares = share_fields r.pr_share r.mr_share r.sr_share; indicator = r.indicator; territory = r.territory })
row_in _ = None

-- two numbers of a party are compared after trimming (profile)
abbrev pub same_number : List ℕ → List ℕ → Bool
same_number a b = bytes_eq (trimmed a) (trimmed b)

-- whether two sides are one
abbrev pub same_side : Side → Side → Bool
same_side side.Publisher side.Publisher = true
same_side side.Writer side.Writer = true
same_side _ _ = false

-- whether there is an interested party of a side with a number
abbrev pub party_is : Side → List ℕ → Option InterestedParty → Bool
party_is s number None = false
party_is s number (Some party) = same_side party.side s && same_number party.number number

-- whether a record is an interested party of a side with a number
abbrev pub is_interested_party : Side → List ℕ → Record → Bool
is_interested_party s number r = party_is s number (party_in r)

-- a territory row belongs to an interested party before it that is of its side with its number, where none of the records between them is: to the nearest one (profile)
abbrev pub belongs : InterestedParty → List Record → TerritoryRow → Bool
belongs party between row = party_is row.side row.number (Some party) && not (list_any (is_interested_party row.side row.number) between)

-- rows behind one, where it is there and belongs to an interested party
abbrev pub with_own_row : InterestedParty → List Record → Option TerritoryRow → List TerritoryRow → List TerritoryRow
with_own_row party between None rows = rows
with_own_row party between (Some row) rows = if belongs party between row then row ∷ rows else rows

-- the territory rows that belong to an interested party, of the records behind those between
abbrev pub rows_behind : InterestedParty → List Record → List Record → List TerritoryRow
rows_behind party between [] = []
rows_behind party between (r ∷ more) = with_own_row party between (row_in r) (rows_behind party (between ++ r ∷ []) more)

-- the territory rows of an interested party, of the records after it
abbrev pub rows_of : InterestedParty → List Record → List TerritoryRow
rows_of party after = rows_behind party [] after

-- the TIS code of the world (CISAC TIS)
abbrev pub world : ℕ
world = 2136

-- a TIS code names the world or the office's own territory (profile)
abbrev pub names_territory : Office → Option ℕ → Bool
names_territory office None = false
names_territory office (Some code) = (code == world) || (code == office.territory)

-- a territory row counts where its indicator is I or E and its TIS code names the world or the office's territory (profile)
abbrev pub counts : Office → TerritoryRow → Bool
counts office row = is_some (indicator_of row.indicator) && names_territory office (territory_of row.territory)

-- the later of a row and a counting one behind it, where one counts
abbrev pub later_or : Office → TerritoryRow → Option TerritoryRow → Option TerritoryRow
later_or office row (Some later) = Some later
later_or office row None = if counts office row then Some row else None

-- the last counting row of some
abbrev pub last_counting : Office → List TerritoryRow → Option TerritoryRow
last_counting office [] = None
last_counting office (row ∷ rows) = later_or office row (last_counting office rows)

-- a share in hundredths of a percent, a faulty one as 0 (profile)
abbrev pub share_or_zero : List ℕ → ℕ
share_or_zero field = unwrap_or (share_of field) 0

-- the three shares of their fields
abbrev pub shares_of : ShareFields → Shares
shares_of fields = record { performing = share_or_zero fields.performing; mechanical = share_or_zero fields.mechanical; synchronization = share_or_zero fields.synchronization }

-- no shares
abbrev pub no_shares : Shares
no_shares = record { performing = 0; mechanical = 0; synchronization = 0 }

-- the shares of a row that counts: E means zeros (profile)
abbrev pub shares_by : Option Indicator → ShareFields → Shares
shares_by (Some Included) fields = shares_of fields
shares_by (Some Excluded) fields = no_shares
shares_by None fields = no_shares

-- the shares of the last counting row, zeros where none counts (profile)
abbrev pub shares_at : Option TerritoryRow → Shares
shares_at None = no_shares
shares_at (Some row) = shares_by (indicator_of row.indicator) row.shares

-- of three shares that of a right
abbrev pub share_in : Kind → Shares → ℕ
share_in Performing shares = shares.performing
share_in Mechanical shares = shares.mechanical

-- an interested party, and the records of its transaction after it
pub record Interest : Type 0 where
  pub party : InterestedParty
  pub after : List Record

-- interested parties behind one that may be there
abbrev pub with_interest : Option InterestedParty → List Record → List Interest → List Interest
with_interest None after interests = interests
with_interest (Some party) after interests = record { party = party; after = after } ∷ interests

-- the interested parties of a transaction, in record order
abbrev pub interests : List Record → List Interest
interests [] = []
interests (r ∷ after) = with_interest (party_in r) after (interests after)

-- the collection shares of an interested party at an office: those of its last counting row (profile)
abbrev pub collected : Office → Interest → Shares
collected office interest = shares_at (last_counting office (rows_of interest.party interest.after))

-- the ownership shares of an interested party
abbrev pub owned : Interest → Shares
owned interest = shares_of interest.party.shares
