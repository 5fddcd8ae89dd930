-- What one statement adds to a table (representation).
use Rattle.std.specs.Prelude.{ℕ, List, [], ◌∷◌, ◌++◌, codes}
use Rattle.sqlite_value.specs.Order.{Row}
use Rattle.society_rows.specs.declared.new_rows.NewRows.{NewRows}
use Rattle.society_rows.specs.declared.new_rows.NewRows.TheVariants as new
use Rattle.society_rows.specs.declared.tables.TableName.{TableName}
use Rattle.society_rows.specs.declared.tables.TableName.TheVariants as name
use Rattle.society_rows.specs.Rows.{office_values, transmission_values, return_values, pool_values, pool_cut_values, pool_return_values, verdict_values, version_values, recording_values, credit_values, balance_values, segment_end_values, mechanical_pool_values}

-- rows of a table
pub record TableRows : Type 0 where
  pub table : TableName
  pub rows : List Row

-- the rows that are added
abbrev pub rows_added : NewRows → TableRows
rows_added (new.Office row) = record { table = name.Office; rows = office_values row.now ∷ [] }
rows_added (new.Transmission row) = record { table = name.Transmissions; rows = transmission_values row.now ∷ [] }
rows_added (new.Return row) = record { table = name.Returns; rows = return_values row.now ∷ [] }
rows_added (new.Pool row) = record { table = name.Pools; rows = pool_values row.now ∷ [] }
rows_added (new.PoolCut row) = record { table = name.PoolCuts; rows = pool_cut_values row.now ∷ [] }
rows_added (new.PoolCuts one two) = record { table = name.PoolCuts; rows = pool_cut_values one.now ∷ pool_cut_values two.now ∷ [] }
rows_added (new.PoolReturn row) = record { table = name.PoolReturns; rows = pool_return_values row.now ∷ [] }
rows_added (new.PoolReturns one two) = record { table = name.PoolReturns; rows = pool_return_values one.now ∷ pool_return_values two.now ∷ [] }
rows_added (new.Verdict row) = record { table = name.Verdicts; rows = verdict_values row.now ∷ [] }
rows_added (new.Verdicts one two) = record { table = name.Verdicts; rows = verdict_values one.now ∷ verdict_values two.now ∷ [] }
rows_added (new.Version row) = record { table = name.Versions; rows = version_values row.now ∷ [] }
rows_added (new.Versions one two) = record { table = name.Versions; rows = version_values one.now ∷ version_values two.now ∷ [] }
rows_added (new.Recording row) = record { table = name.Recordings; rows = recording_values row.now ∷ [] }
rows_added (new.Recordings one two) = record { table = name.Recordings; rows = recording_values one.now ∷ recording_values two.now ∷ [] }
rows_added (new.Credit row) = record { table = name.Credits; rows = credit_values row.now ∷ [] }
rows_added (new.Credits one two) = record { table = name.Credits; rows = credit_values one.now ∷ credit_values two.now ∷ [] }
rows_added (new.Balance row) = record { table = name.Balances; rows = balance_values row.now ∷ [] }
rows_added (new.SegmentEnd row) = record { table = name.SegmentEnds; rows = segment_end_values row.now ∷ [] }
rows_added (new.MechanicalPool row) = record { table = name.MechanicalPools; rows = mechanical_pool_values row.now ∷ [] }

-- the statement that adds them
abbrev pub insert_text : NewRows → List ℕ
insert_text (new.Office row) = codes "INSERT INTO office (one, layout, society, territory, name) VALUES (?1, ?2, ?3, ?4, ?5)"
insert_text (new.Transmission row) = codes "INSERT INTO transmissions (sender, number, body) VALUES (?1, ?2, ?3)"
insert_text (new.Return row) = codes "INSERT INTO returns (reporter, number, body) VALUES (?1, ?2, ?3)"
insert_text (new.Pool row) = codes "INSERT INTO pools (pool, amount) VALUES (?1, ?2)"
insert_text (new.PoolCut row) = codes "INSERT INTO pool_cuts (pool, sender, number) VALUES (?1, ?2, ?3)"
insert_text (new.PoolCuts one two) = codes "INSERT INTO pool_cuts (pool, sender, number) VALUES (?1, ?2, ?3), (?4, ?5, ?6)"
insert_text (new.PoolReturn row) = codes "INSERT INTO pool_returns (reporter, number, pool) VALUES (?1, ?2, ?3)"
insert_text (new.PoolReturns one two) = codes "INSERT INTO pool_returns (reporter, number, pool) VALUES (?1, ?2, ?3), (?4, ?5, ?6)"
insert_text (new.Verdict row) = codes "INSERT INTO verdicts (sender, number, place, fault, ordinal, revision) VALUES (?1, ?2, ?3, ?4, ?5, ?6)"
insert_text (new.Verdicts one two) = codes "INSERT INTO verdicts (sender, number, place, fault, ordinal, revision) VALUES (?1, ?2, ?3, ?4, ?5, ?6), (?7, ?8, ?9, ?10, ?11, ?12)"
insert_text (new.Version row) = codes "INSERT INTO versions (sender, work, revision, number, place, ordinal) VALUES (?1, ?2, ?3, ?4, ?5, ?6)"
insert_text (new.Versions one two) = codes "INSERT INTO versions (sender, work, revision, number, place, ordinal) VALUES (?1, ?2, ?3, ?4, ?5, ?6), (?7, ?8, ?9, ?10, ?11, ?12)"
insert_text (new.Recording row) = codes "INSERT INTO recordings (sender, work, revision, isrc) VALUES (?1, ?2, ?3, ?4)"
insert_text (new.Recordings one two) = codes "INSERT INTO recordings (sender, work, revision, isrc) VALUES (?1, ?2, ?3, ?4), (?5, ?6, ?7, ?8)"
insert_text (new.Credit row) = codes "INSERT INTO credits (pool, line, isrc, account, units) VALUES (?1, ?2, ?3, ?4, ?5)"
insert_text (new.Credits one two) = codes "INSERT INTO credits (pool, line, isrc, account, units) VALUES (?1, ?2, ?3, ?4, ?5), (?6, ?7, ?8, ?9, ?10)"
insert_text (new.Balance row) = codes "INSERT INTO balances (account, units) VALUES (?1, ?2)"
insert_text (new.SegmentEnd row) = codes "INSERT INTO segment_ends (sender, segment, last, next) VALUES (?1, ?2, ?3, ?4)"
insert_text (new.MechanicalPool row) = codes "INSERT INTO mechanical_pools (pool) VALUES (?1)"

-- the values of rows, one row after another
abbrev pub one_after_another : List Row → Row
one_after_another [] = []
one_after_another (row ∷ rows) = row ++ one_after_another rows
