-- The values of each table's rows, in the order of its columns.
use Rattle.std.specs.Prelude.{ℕ, pos, [], ◌∷◌}
use Rattle.sqlite_value.specs.declared.value.Value.TheVariants.{Int, Text, Blob}
use Rattle.sqlite_value.specs.Order.{Row}
use Rattle.society_rows.specs.declared.office.OfficeRow.{OfficeRow}
use Rattle.society_rows.specs.declared.balances.BalanceRow.{BalanceRow}
use Rattle.society_rows.specs.declared.credits.CreditRow.{CreditRow}
use Rattle.society_rows.specs.declared.fronts.FrontRow.{FrontRow}
use Rattle.society_rows.specs.declared.mechanical_pools.MechanicalPoolRow.{MechanicalPoolRow}
use Rattle.society_rows.specs.declared.pool_cuts.PoolCutRow.{PoolCutRow}
use Rattle.society_rows.specs.declared.pool_returns.PoolReturnRow.{PoolReturnRow}
use Rattle.society_rows.specs.declared.pools.PoolRow.{PoolRow}
use Rattle.society_rows.specs.declared.recordings.RecordingRow.{RecordingRow}
use Rattle.society_rows.specs.declared.returns.ReturnRow.{ReturnRow}
use Rattle.society_rows.specs.declared.segment_ends.SegmentEndRow.{SegmentEndRow}
use Rattle.society_rows.specs.declared.transmissions.TransmissionKeyRow.{TransmissionKeyRow}
use Rattle.society_rows.specs.declared.transmissions.TransmissionRow.{TransmissionRow}
use Rattle.society_rows.specs.declared.verdicts.VerdictRow.{VerdictRow}
use Rattle.society_rows.specs.declared.versions.VersionRow.{VersionRow}
use Rattle.society_rows.specs.SegmentColumns.{segment_column}
use Rattle.work_ids.specs.Segments.{index_of}

-- one, layout, society, territory, name, under some layout
abbrev pub office_values_under : ℕ → OfficeRow → Row
office_values_under layout r = Int (pos 1) ∷ Int (pos layout) ∷ Int (pos r.society) ∷ Int (pos r.territory) ∷ Text r.name.now ∷ []

-- the same under layout 3
abbrev pub office_values : OfficeRow → Row
office_values = office_values_under 3

-- sender, number, body
abbrev pub transmission_values : TransmissionRow → Row
transmission_values r = Text r.sender.now ∷ Int (pos r.number) ∷ Blob r.body.now ∷ []

-- sender, number
abbrev pub transmission_key_values : TransmissionKeyRow → Row
transmission_key_values r = Text r.sender.now ∷ Int (pos r.number) ∷ []

-- reporter, number, body
abbrev pub return_values : ReturnRow → Row
return_values r = Text r.reporter.now ∷ Int (pos r.number) ∷ Blob r.body.now ∷ []

-- pool, amount
abbrev pub pool_values : PoolRow → Row
pool_values r = Int (pos r.pool) ∷ Int r.amount ∷ []

-- pool, sender, number
abbrev pub pool_cut_values : PoolCutRow → Row
pool_cut_values r = Int (pos r.pool) ∷ Text r.sender.now ∷ Int (pos r.number) ∷ []

-- reporter, number, pool
abbrev pub pool_return_values : PoolReturnRow → Row
pool_return_values r = Text r.reporter.now ∷ Int (pos r.number) ∷ Int (pos r.pool) ∷ []

-- sender, front, works
abbrev pub front_values : FrontRow → Row
front_values r = Text r.sender.now ∷ Int (pos r.front) ∷ Int r.works ∷ []

-- sender, number, place, fault, ordinal, revision
abbrev pub verdict_values : VerdictRow → Row
verdict_values r = Text r.sender.now ∷ Int (pos r.number) ∷ Int (pos r.place) ∷ Int (pos r.fault) ∷ Int r.ordinal ∷ Int r.revision ∷ []

-- sender, work, revision, number, place, ordinal
abbrev pub version_values : VersionRow → Row
version_values r = Text r.sender.now ∷ Text r.work.now ∷ Int r.revision ∷ Int (pos r.number) ∷ Int (pos r.place) ∷ Int r.ordinal ∷ []

-- sender, work, revision, isrc
abbrev pub recording_values : RecordingRow → Row
recording_values r = Text r.sender.now ∷ Text r.work.now ∷ Int r.revision ∷ Text r.isrc.now ∷ []

-- pool, line, isrc, account, units
abbrev pub credit_values : CreditRow → Row
credit_values r = Int (pos r.pool) ∷ Int (pos r.line) ∷ Text r.isrc.now ∷ Text r.account.now ∷ Int r.units ∷ []

-- account, units
abbrev pub balance_values : BalanceRow → Row
balance_values r = Text r.account.now ∷ Int r.units ∷ []

-- sender, segment, last, next
abbrev pub segment_end_values : SegmentEndRow → Row
segment_end_values r = Text r.sender.now ∷ Int (segment_column (index_of r.segment)) ∷ Int (pos r.last) ∷ Int (pos r.next) ∷ []

-- pool
abbrev pub mechanical_pool_values : MechanicalPoolRow → Row
mechanical_pool_values r = Int (pos r.pool) ∷ []
