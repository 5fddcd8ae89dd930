-- What tables have whose own rows are as others': the same book.
use Rattle.std.proofs.Common.{◌≡◌, List, map, refl, subst, sym}
use Rattle.sqlite_schema.specs.declared.schema.Table.{Table}
use Rattle.sqlite_trees.specs.Tree.{Trees}
use Rattle.sqlite_value.specs.Order.{Row}
use Rattle.society_core.specs.Book.{Book}
use Rattle.society_rows.specs.Layout as layout
use Rattle.society_rows.specs.Layout.{all_tables, written_out}
use Rattle.society_rows.specs.Stored.{rows_in, values_of}
use Rattle.society_book.specs.BookRows.{AreOfBook, book_of}
use Rattle.society_book.specs.Columns.{HasRows}
use Rattle.book_derivation.specs.Deriving.{KeepsOwn}

-- a table that is as it was has the rows that it had
pub rows_kept : (t : Table) (one two : Trees) → two t.tree ≡ one t.tree → rows_in t two ≡ rows_in t one
rows_kept t one two same = subst (λ (rows : List Row). map (values_of t) rows ≡ map (values_of t) (one t.tree)) (sym same) refl

-- so it has exactly the rows that were expected of it
pub has_kept : {K : Type 0} (is_of : K → Row → _) (expected : K → List Row) (t : Table) (one two : Trees) → two t.tree ≡ one t.tree → HasRows is_of expected (rows_in t one) → HasRows is_of expected (rows_in t two)
has_kept is_of expected t one two same has = subst (λ (rows : List Row). HasRows is_of expected rows) (sym (rows_kept t one two same)) has

module _ (one two : Trees) (keeps : KeepsOwn one two) where
  pub office_kept : two layout.office.tree ≡ one layout.office.tree
  unfolding written_out
  office_kept = keeps.first.0

  pub transmissions_kept : two layout.transmissions.tree ≡ one layout.transmissions.tree
  unfolding written_out
  transmissions_kept = keeps.first.1.0

  pub returns_kept : two layout.returns.tree ≡ one layout.returns.tree
  unfolding written_out
  returns_kept = keeps.first.1.1.0

  pub pools_kept : two layout.pools.tree ≡ one layout.pools.tree
  unfolding written_out
  pools_kept = keeps.first.1.1.1.0

  pub cuts_kept : two layout.pool_cuts.tree ≡ one layout.pool_cuts.tree
  unfolding written_out
  cuts_kept = keeps.first.1.1.1.1.0

  pub paid_kept : two layout.pool_returns.tree ≡ one layout.pool_returns.tree
  unfolding written_out
  paid_kept = keeps.first.1.1.1.1.1.0

  pub ends_kept : two layout.segment_ends.tree ≡ one layout.segment_ends.tree
  unfolding written_out
  ends_kept = keeps.later.0

  pub marks_kept : two layout.mechanical_pools.tree ≡ one layout.mechanical_pools.tree
  unfolding written_out
  marks_kept = keeps.later.1.0

  -- they are of the same book
  pub own_kept : (b : Book) → AreOfBook b one → AreOfBook b two
  own_kept b own = record {
    transmissions = has_kept _ _ layout.transmissions one two transmissions_kept own.transmissions;
    returns = has_kept _ _ layout.returns one two returns_kept own.returns;
    pools = has_kept _ _ layout.pools one two pools_kept own.pools;
    cuts = has_kept _ _ layout.pool_cuts one two cuts_kept own.cuts;
    paid = has_kept _ _ layout.pool_returns one two paid_kept own.paid;
    ends = has_kept _ _ layout.segment_ends one two ends_kept own.ends;
    mechanical = has_kept _ _ layout.mechanical_pools one two marks_kept own.mechanical;
  }

  -- they stand for the same
  pub book_kept : book_of two ≡ book_of one
  unfolding book_of
  book_kept =
      rw (
        rows_kept layout.transmissions one two transmissions_kept,
        rows_kept layout.segment_ends one two ends_kept,
        rows_kept layout.returns one two returns_kept,
        rows_kept layout.pools one two pools_kept,
        rows_kept layout.pool_cuts one two cuts_kept,
        rows_kept layout.pool_returns one two paid_kept,
        rows_kept layout.mechanical_pools one two marks_kept,
      ) refl
