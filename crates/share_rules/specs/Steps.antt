-- Representation, not meaning: what one more record or share changes, as the records of a transaction are gone through.
use Rattle.std.specs.Prelude.{ℕ, ◌+◌, Bool, false, ◌&&◌, ◌||◌, List, [], ◌∷◌, Option, Some, None, if◌then◌else◌, nat_lt}
use Rattle.cwr_records.specs.Typed.{indicator_of}
use Rattle.cwr_records.specs.declared.record.Record.{Record}
use Rattle.share_rules.specs.Fault.{sum_limit}
use Rattle.share_rules.specs.Parties.{last_counting, row_in, same_number, same_side, shares_by}
use Rattle.share_rules.specs.declared.office.Office.{Office}
use Rattle.share_rules.specs.declared.party.Side.{Side}
use Rattle.share_rules.specs.declared.territory_row.TerritoryRow.{TerritoryRow}
use Rattle.share_rules.specs.declared.shares.Shares.{Shares}
use Rattle.share_rules.specs.declared.totals.Totals.{Totals}

-- whether there is a territory row of a side with a number
abbrev pub row_is : Side → List ℕ → Option TerritoryRow → Bool
row_is s number None = false
row_is s number (Some row) = same_side row.side s && same_number row.number number

-- rows behind one, where it is there and of the side with the number
abbrev pub with_matching_row : Side → List ℕ → Option TerritoryRow → List TerritoryRow → List TerritoryRow
with_matching_row s number None rows = rows
with_matching_row s number (Some row) rows = if row_is s number (Some row) then row ∷ rows else rows

-- the shares of a row that counts, or else those of the rows before it
abbrev pub shares_or : Shares → Option TerritoryRow → Shares
shares_or before None = before
shares_or before (Some row) = shares_by (indicator_of row.indicator) row.shares

-- the shares that an interested party collects by the records up to this one, where those before it give some
abbrev pub shares_after : Office → Side → List ℕ → Shares → Record → Shares
shares_after office side number before r = shares_or before (last_counting office (with_matching_row side number (row_in r) []))

-- the totals with one more holder's shares
abbrev pub with_shares : Totals → Shares → Totals
with_shares totals shares = record {
  performing = totals.performing + shares.performing;
  mechanical = totals.mechanical + shares.mechanical;
  synchronization = totals.synchronization + shares.synchronization;
}

-- the totals before the first holder
abbrev pub no_totals : Totals
no_totals = record { performing = 0; mechanical = 0; synchronization = 0 }

-- a total is more than the limit (profile)
abbrev pub is_exceeded : Totals → Bool
is_exceeded totals = nat_lt sum_limit totals.performing || nat_lt sum_limit totals.mechanical || nat_lt sum_limit totals.synchronization
