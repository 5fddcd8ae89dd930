-- What an INSERT asks of each table, and what each INSERT is.
use Rattle.std.proofs.Common.{[], refl}
use Rattle.sqlite_tied.specs.Compute.{everything}
use Rattle.sqlite.specs.Listing.{understood}
use Rattle.society_rows.specs.declared.new_rows.NewRows.{NewRows}
use Rattle.society_rows.specs.declared.new_rows.NewRows.TheVariants as new
use Rattle.society_rows.specs.declared.tables.TableName.{TableName}
use Rattle.society_rows.specs.declared.tables.TableName.TheVariants as name
use Rattle.society_rows.specs.Layout.{written_out, mechanical_pools}
use Rattle.society_rows.specs.NewRows.{rows_added, insert_text}
use Rattle.society_rows.specs.TableNames.{table_called}
use Rattle.society_rows.proofs.lemmas.changes.Casts.{cast_null, cast_int}
use Rattle.society_rows.proofs.lemmas.definitions.FirstTables.{place}
use Rattle.society_rows.proofs.lemmas.changes.Inserts.{IsInsert, IsSettled}

unfoldable pub settled : (table : TableName) → IsSettled (table_called table) (place table)
unfolding understood everything written_out
settled name.Office = record { refers = λ _ _. []; listed = λ _ _. refl; uncounted = refl; unstamped = refl }
settled name.Transmissions = record { refers = λ _ _. []; listed = λ _ _. refl; uncounted = refl; unstamped = refl }
settled name.Returns = record { refers = λ _ _. []; listed = λ _ _. refl; uncounted = refl; unstamped = refl }
settled name.Pools = record { refers = λ _ _. []; listed = λ _ _. refl; uncounted = refl; unstamped = refl }
settled name.PoolCuts = record { refers = λ cuts _. cuts; listed = λ _ _. refl; uncounted = refl; unstamped = refl }
settled name.PoolReturns = record { refers = λ _ payments. payments; listed = λ _ _. refl; uncounted = refl; unstamped = refl }
settled name.Fronts = record { refers = λ _ _. []; listed = λ _ _. refl; uncounted = refl; unstamped = refl }
settled name.Verdicts = record { refers = λ _ _. []; listed = λ _ _. refl; uncounted = refl; unstamped = refl }
settled name.Versions = record { refers = λ _ _. []; listed = λ _ _. refl; uncounted = refl; unstamped = refl }
settled name.Recordings = record { refers = λ _ _. []; listed = λ _ _. refl; uncounted = refl; unstamped = refl }
settled name.Credits = record { refers = λ _ _. []; listed = λ _ _. refl; uncounted = refl; unstamped = refl }
settled name.Balances = record { refers = λ _ _. []; listed = λ _ _. refl; uncounted = refl; unstamped = refl }
settled name.SegmentEnds = record { refers = λ _ _. []; listed = λ _ _. refl; uncounted = refl; unstamped = refl }
settled name.MechanicalPools = record { refers = λ _ _. mechanical_pools.references; listed = λ _ _. refl; uncounted = refl; unstamped = refl }

pub inserted : (rows : NewRows) → IsInsert (table_called (rows_added rows).table) (place (rows_added rows).table) (insert_text rows) (rows_added rows).rows
unfolding understood everything written_out
inserted (new.Office row) = record { is = λ _ _. refl; given = refl; stores = (λ rows. simp (cast_null, cast_int), tt) }
inserted (new.Transmission row) = record { is = λ _ _. refl; given = refl; stores = (λ rows. simp (cast_null, cast_int), tt) }
inserted (new.Return row) = record { is = λ _ _. refl; given = refl; stores = (λ rows. simp (cast_null, cast_int), tt) }
inserted (new.Pool row) = record { is = λ _ _. refl; given = refl; stores = (λ rows. simp (cast_null, cast_int), tt) }
inserted (new.PoolCut row) = record { is = λ _ _. refl; given = refl; stores = (λ rows. simp (cast_null, cast_int), tt) }
inserted (new.PoolCuts one two) = record { is = λ _ _. refl; given = refl; stores = (λ rows. simp (cast_null, cast_int), (λ rows. simp (cast_null, cast_int), tt)) }
inserted (new.PoolReturn row) = record { is = λ _ _. refl; given = refl; stores = (λ rows. simp (cast_null, cast_int), tt) }
inserted (new.PoolReturns one two) = record { is = λ _ _. refl; given = refl; stores = (λ rows. simp (cast_null, cast_int), (λ rows. simp (cast_null, cast_int), tt)) }
inserted (new.Verdict row) = record { is = λ _ _. refl; given = refl; stores = (λ rows. simp (cast_null, cast_int), tt) }
inserted (new.Verdicts one two) = record { is = λ _ _. refl; given = refl; stores = (λ rows. simp (cast_null, cast_int), (λ rows. simp (cast_null, cast_int), tt)) }
inserted (new.Version row) = record { is = λ _ _. refl; given = refl; stores = (λ rows. simp (cast_null, cast_int), tt) }
inserted (new.Versions one two) = record { is = λ _ _. refl; given = refl; stores = (λ rows. simp (cast_null, cast_int), (λ rows. simp (cast_null, cast_int), tt)) }
inserted (new.Recording row) = record { is = λ _ _. refl; given = refl; stores = (λ rows. simp (cast_null, cast_int), tt) }
inserted (new.Recordings one two) = record { is = λ _ _. refl; given = refl; stores = (λ rows. simp (cast_null, cast_int), (λ rows. simp (cast_null, cast_int), tt)) }
inserted (new.Credit row) = record { is = λ _ _. refl; given = refl; stores = (λ rows. simp (cast_null, cast_int), tt) }
inserted (new.Credits one two) = record { is = λ _ _. refl; given = refl; stores = (λ rows. simp (cast_null, cast_int), (λ rows. simp (cast_null, cast_int), tt)) }
inserted (new.Balance row) = record { is = λ _ _. refl; given = refl; stores = (λ rows. simp (cast_null, cast_int), tt) }
inserted (new.SegmentEnd row) = record { is = λ _ _. refl; given = refl; stores = (λ rows. simp (cast_null, cast_int), tt) }
inserted (new.MechanicalPool row) = record { is = λ _ _. refl; given = refl; stores = (λ rows. simp (cast_null, cast_int), tt) }
