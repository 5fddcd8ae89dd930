-- What each query finds that goes over a whole table.
use Rattle.std.proofs.Common.{◌≡◌, ◌∙◌, List, [], ◌∷◌, map, codes, refl, subst, sym, IsPermutation}
use Rattle.std.proofs.lemmas.Simd.{map-map}
use Rattle.sqlite_value.specs.Order.{Row, column}
use Rattle.sqlite_tied.specs.Compute.{everything}
use Rattle.sqlite.specs.Listing.{understood}
use Rattle.society_rows.specs.declared.derived_tables.DerivedTable.{DerivedTable}
use Rattle.society_rows.specs.declared.derived_tables.DerivedTable.TheVariants as line
use Rattle.society_rows.specs.declared.tables.TableName.{TableName}
use Rattle.society_rows.specs.declared.tables.TableName.TheVariants as name
use Rattle.society_rows.specs.Layout.{written_out, office, transmissions, returns, pools, pool_cuts, pool_returns, fronts, verdicts, versions, recordings, credits_table, balances, segment_ends, mechanical_pools}
use Rattle.society_rows.specs.Layouts.{first_table_count}
use Rattle.society_rows.specs.FirstColumns.{ListsFirstColumn, first_of, derived_table, first_column_text}
use Rattle.society_rows.specs.Listings.{ListsAll}
use Rattle.society_rows.specs.Stored.{values_of}
use Rattle.society_rows.specs.TableNames.{listing_text, rowids_text, table_called}
use Rattle.society_rows.proofs.lemmas.readings.Queries.{IsReading}
use Rattle.society_rows.proofs.lemmas.readings.Selections.{lists, lists_column, finds_as}

-- all rows
pub listed : (table : TableName) → IsReading (first_table_count table) [] (listing_text table) (ListsAll table)
unfolding understood everything written_out
listed name.Office = lists office [] 1 (λ r. refl) (λ a b. refl) (λ _ _ _ _. refl)
listed name.Transmissions = lists transmissions [] 2 (λ r. refl) (λ a b. refl) (λ _ _ _ _. refl)
listed name.Returns = lists returns [] 2 (λ r. refl) (λ a b. refl) (λ _ _ _ _. refl)
listed name.Pools = lists pools [] 1 (λ r. refl) (λ a b. refl) (λ _ _ _ _. refl)
listed name.PoolCuts = lists pool_cuts [] 3 (λ r. refl) (λ a b. refl) (λ _ _ _ _. refl)
listed name.PoolReturns = lists pool_returns [] 3 (λ r. refl) (λ a b. refl) (λ _ _ _ _. refl)
listed name.Fronts = lists fronts [] 1 (λ r. refl) (λ a b. refl) (λ _ _ _ _. refl)
listed name.Verdicts = lists verdicts [] 6 (λ r. refl) (λ a b. refl) (λ _ _ _ _. refl)
listed name.Versions = lists versions [] 6 (λ r. refl) (λ a b. refl) (λ _ _ _ _. refl)
listed name.Recordings = lists recordings [] 4 (λ r. refl) (λ a b. refl) (λ _ _ _ _. refl)
listed name.Credits = lists credits_table [] 2 (λ r. refl) (λ a b. refl) (λ _ _ _ _. refl)
listed name.Balances = lists balances [] 1 (λ r. refl) (λ a b. refl) (λ _ _ _ _. refl)
listed name.SegmentEnds = lists segment_ends [] 4 (λ r. refl) (λ a b. refl) (λ _ _ _ _. refl)
listed name.MechanicalPools = lists mechanical_pools [] 1 (λ r. refl) (λ a b. refl) (λ _ _ _ _. refl)

-- the rowids, under the name that the column has
pub numbered : (table : TableName) → IsReading (first_table_count table) [] (rowids_text table) (λ db. IsPermutation (map (λ r. column r 0 ∷ []) (db (table_called table).tree)))
unfolding understood everything written_out
numbered name.Office = lists_column office.tree 0 (codes "one" ∷ []) (λ _ _ _ _. refl)
numbered name.Transmissions = lists_column transmissions.tree 0 (codes "rowid" ∷ []) (λ _ _ _ _. refl)
numbered name.Returns = lists_column returns.tree 0 (codes "rowid" ∷ []) (λ _ _ _ _. refl)
numbered name.Pools = lists_column pools.tree 0 (codes "pool" ∷ []) (λ _ _ _ _. refl)
numbered name.PoolCuts = lists_column pool_cuts.tree 0 (codes "rowid" ∷ []) (λ _ _ _ _. refl)
numbered name.PoolReturns = lists_column pool_returns.tree 0 (codes "rowid" ∷ []) (λ _ _ _ _. refl)
numbered name.Fronts = lists_column fronts.tree 0 (codes "rowid" ∷ []) (λ _ _ _ _. refl)
numbered name.Verdicts = lists_column verdicts.tree 0 (codes "rowid" ∷ []) (λ _ _ _ _. refl)
numbered name.Versions = lists_column versions.tree 0 (codes "rowid" ∷ []) (λ _ _ _ _. refl)
numbered name.Recordings = lists_column recordings.tree 0 (codes "rowid" ∷ []) (λ _ _ _ _. refl)
numbered name.Credits = lists_column credits_table.tree 0 (codes "rowid" ∷ []) (λ _ _ _ _. refl)
numbered name.Balances = lists_column balances.tree 0 (codes "rowid" ∷ []) (λ _ _ _ _. refl)
numbered name.SegmentEnds = lists_column segment_ends.tree 0 (codes "rowid" ∷ []) (λ _ _ _ _. refl)
numbered name.MechanicalPools = lists_column mechanical_pools.tree 0 (codes "pool" ∷ []) (λ _ _ _ _. refl)

-- the first column of a row, as it is stored
first_is : (table : DerivedTable) (row : Row) → column row 1 ∷ [] ≡ first_of (values_of (derived_table table) row)
unfolding written_out
first_is line.Fronts row = refl
first_is line.Verdicts row = refl
first_is line.Versions row = refl
first_is line.Recordings row = refl
first_is line.Credits row = refl

stored_columns : (table : DerivedTable) → IsReading 14 [] (first_column_text table) (λ db. IsPermutation (map (λ r. column r 1 ∷ []) (db (derived_table table).tree)))
unfolding understood everything written_out
stored_columns line.Fronts = lists_column fronts.tree 1 (codes "sender" ∷ []) (λ _ _ _ _. refl)
stored_columns line.Verdicts = lists_column verdicts.tree 1 (codes "sender" ∷ []) (λ _ _ _ _. refl)
stored_columns line.Versions = lists_column versions.tree 1 (codes "sender" ∷ []) (λ _ _ _ _. refl)
stored_columns line.Recordings = lists_column recordings.tree 1 (codes "sender" ∷ []) (λ _ _ _ _. refl)
stored_columns line.Credits = lists_column credits_table.tree 1 (codes "pool" ∷ []) (λ _ _ _ _. refl)

-- the senders, or the pools
pub owned : (table : DerivedTable) → IsReading 14 [] (first_column_text table) (ListsFirstColumn table)
owned table = finds_as (stored_columns table) (λ db rows.
    let stored = db (derived_table table).tree in
    subst (λ (l : List Row). IsPermutation l rows) ((λ i. map (λ r. first_is table r i) stored) ∙ sym (map-map first_of (values_of (derived_table table)) stored)))
