-- The rows of the book's own tables, and the book that such rows stand for.
use Rattle.std.specs.Prelude.{◌&&◌, ℕ, pos, Bool, List, [], ◌∷◌, ◌==◌, Option, Some, None, filter, map, bytes_eq}
use Rattle.std.specs.FinMap as finite
use Rattle.sqlite_value.specs.declared.value.Value.TheVariants.{Int, Text, Blob}
use Rattle.sqlite_value.specs.Order.{Row}
use Rattle.sqlite_trees.specs.Tree.{Trees}
use Rattle.sender_segments.specs.Ways.{End}
use Rattle.share_rules.specs.declared.kind.Kind.{Kind}
use Rattle.share_rules.specs.declared.kind.Kind.TheVariants.{Performing, Mechanical}
use Rattle.society_core.specs.Book.{Book, body_at, end_at, order_at, return_at}
use Rattle.society_core.specs.Keys.{ascending, return_cmp, return_key, segment_key, transmission_cmp, transmission_key}
use Rattle.society_core.specs.Orders.{Order, same_return_key, same_transmission_key}
use Rattle.society_core.specs.declared.return_key.ReturnKey.{ReturnKey}
use Rattle.society_core.specs.declared.segment_key.SegmentKey.{SegmentKey}
use Rattle.society_core.specs.declared.transmission_key.TransmissionKey.{TransmissionKey}
use Rattle.society_rows.specs.Layout as layout
use Rattle.society_rows.specs.SegmentColumns.{segment_column}
use Rattle.society_rows.specs.Stored.{rows_in}
use Rattle.work_ids.specs.Blanks.{fill, without_trailing_blanks}
use Rattle.society_book.specs.Columns.{HasRows, blob_at, segment_place_at, whole_number_at, text_at}

-- what a key has, as one row or none
abbrev pub row_of_some : {X : Type 0} → (X → Row) → Option X → List Row
row_of_some row (Some x) = row x ∷ []
row_of_some row None = []

-- the row of a transmission: sender, number, body
abbrev pub transmission_row : TransmissionKey → List ℕ → Row
transmission_row key body = Text key.sender ∷ Int (pos key.number) ∷ Blob body ∷ []

-- the key of a row of a transmission
abbrev pub transmission_key_of : Row → TransmissionKey
transmission_key_of row = transmission_key (text_at 0 row) (whole_number_at 1 row)

-- whether a row is of a transmission
abbrev pub is_transmission_row : TransmissionKey → Row → Bool
is_transmission_row key row = same_transmission_key key (transmission_key_of row)

-- the row of a transmission that the book has
abbrev pub transmission_rows : Book → TransmissionKey → List Row
transmission_rows book key = row_of_some (transmission_row key) (body_at book key.sender key.number)

-- whether two keys are one
abbrev pub same_segment_key : SegmentKey → SegmentKey → Bool
same_segment_key a b = bytes_eq a.sender b.sender && a.segment == b.segment

-- the row of the end of a segment: sender, the segment, its last number, the segment that comes next
abbrev pub end_row : SegmentKey → End → Row
end_row key end = Text key.sender ∷ Int (segment_column key.segment) ∷ Int (pos end.last) ∷ Int (segment_column end.next) ∷ []

-- the key of a row of an end
abbrev pub segment_key_of : Row → SegmentKey
segment_key_of row = segment_key (text_at 0 row) (segment_place_at 1 row)

-- whether a row is of the end of a segment
abbrev pub is_end_row : SegmentKey → Row → Bool
is_end_row key row = same_segment_key key (segment_key_of row)

-- the row of the end of a segment that the book has
abbrev pub end_rows : Book → SegmentKey → List Row
end_rows book key = row_of_some (end_row key) (end_at book key.sender key.segment)

-- the end that a row says
abbrev pub end_of : Row → End
end_of row = record { last = whole_number_at 2 row; next = segment_place_at 3 row }

-- the row of a return: reporter without the blanks that fill it, number, body
abbrev pub return_row : ReturnKey → List ℕ → Row
return_row key body = Text (without_trailing_blanks key.reporter) ∷ Int (pos key.number) ∷ Blob body ∷ []

-- the key of a row of a return, its reporter filled with blanks to 20 bytes
abbrev pub return_key_of : Row → ReturnKey
return_key_of row = return_key (fill 20 (text_at 0 row)) (whole_number_at 1 row)

-- whether a row is of a return
abbrev pub is_return_row : ReturnKey → Row → Bool
is_return_row key row = same_return_key key (return_key_of row)

-- the row of a return that the book has
abbrev pub return_rows : Book → ReturnKey → List Row
return_rows book key = row_of_some (return_row key) (return_at book key)

-- whether the number in a column is a pool's
abbrev pub is_of_pool : ℕ → ℕ → Row → Bool
is_of_pool at pool row = pool == whole_number_at at row

-- the row of a pool: its number and its amount
abbrev pub pool_row : ℕ → Order → Row
pool_row pool order = Int (pos pool) ∷ Int (pos order.amount) ∷ []

-- the row of a pool that is closed
abbrev pub pool_rows : Book → ℕ → List Row
pool_rows book pool = row_of_some (pool_row pool) (order_at book pool)

-- what the order of a pool has in a list, as rows
abbrev pub rows_of_order : {X : Type 0} → (X → Row) → (Order → List X) → Option Order → List Row
rows_of_order row list (Some order) = map row (list order)
rows_of_order row list None = []

-- the row of a sender's cut in a pool: pool, sender, number
abbrev pub cut_row : ℕ → TransmissionKey → Row
cut_row pool key = Int (pos pool) ∷ Text key.sender ∷ Int (pos key.number) ∷ []

-- the rows of a pool's cut
abbrev pub cut_rows : Book → ℕ → List Row
cut_rows book pool = rows_of_order (cut_row pool) (λ order. order.cut) (order_at book pool)

-- the row of a return that a pool pays: reporter without the blanks that fill it, number, pool
abbrev pub paid_row : ℕ → ReturnKey → Row
paid_row pool key = Text (without_trailing_blanks key.reporter) ∷ Int (pos key.number) ∷ Int (pos pool) ∷ []

-- the rows of the returns that a pool pays
abbrev pub paid_rows : Book → ℕ → List Row
paid_rows book pool = rows_of_order (paid_row pool) (λ order. order.returns) (order_at book pool)

-- the row that marks a pool as one of the mechanical right: its number
abbrev pub mechanical_row : ℕ → Row
mechanical_row pool = Int (pos pool) ∷ []

-- the marks of a pool that pays this right
abbrev pub marks_of : ℕ → Kind → List Row
marks_of pool Performing = []
marks_of pool Mechanical = mechanical_row pool ∷ []

-- the marks of a pool by its order
abbrev pub marks_by : ℕ → Option Order → List Row
marks_by pool (Some order) = marks_of pool order.kind
marks_by pool None = []

-- the marks of a pool: one where it is closed and pays the mechanical right
abbrev pub mechanical_rows : Book → ℕ → List Row
mechanical_rows book pool = marks_by pool (order_at book pool)

-- the book's own tables have exactly the rows of a book
pub record AreOfBook (book : Book) (db : Trees) : Type 0 where
  pub transmissions : HasRows is_transmission_row (transmission_rows book) (rows_in layout.transmissions db)
  pub returns : HasRows is_return_row (return_rows book) (rows_in layout.returns db)
  pub pools : HasRows (is_of_pool 0) (pool_rows book) (rows_in layout.pools db)
  pub cuts : HasRows (is_of_pool 0) (cut_rows book) (rows_in layout.pool_cuts db)
  pub paid : HasRows (is_of_pool 2) (paid_rows book) (rows_in layout.pool_returns db)
  pub ends : HasRows is_end_row (end_rows book) (rows_in layout.segment_ends db)
  pub mechanical : HasRows (is_of_pool 0) (mechanical_rows book) (rows_in layout.mechanical_pools db)

-- a row of a transmission as an entry of the book
abbrev pub transmission_entry : Row → TransmissionKey × List ℕ
transmission_entry row = (transmission_key_of row, blob_at 2 row)

-- a row of the end of a segment as an entry of the book
abbrev pub end_entry : Row → SegmentKey × End
end_entry row = (segment_key_of row, end_of row)

-- a row of a return as an entry of the book
abbrev pub return_entry : Row → ReturnKey × List ℕ
return_entry row = (return_key_of row, blob_at 2 row)

-- the sender and the number in a row of a cut
abbrev pub cut_key_of : Row → TransmissionKey
cut_key_of row = transmission_key (text_at 1 row) (whole_number_at 2 row)

-- the right that a pool with these marks pays
abbrev pub kind_marked : List Row → Kind
kind_marked [] = Performing
kind_marked (_ ∷ _) = Mechanical

-- the order of a pool, by the rows of its cut, of its returns and of its marks
abbrev pub order_in : List Row → List Row → List Row → ℕ → ℕ → Order
order_in cuts paid marks pool amount = record {
  kind = kind_marked (filter (is_of_pool 0 pool) marks);
  amount = amount;
  cut = ascending transmission_cmp (map cut_key_of (filter (is_of_pool 0 pool) cuts));
  returns = ascending return_cmp (map return_key_of (filter (is_of_pool 2 pool) paid));
}

-- a row of a pool as an entry of the book
abbrev pub pool_entry : List Row → List Row → List Row → Row → ℕ × Order
pool_entry cuts paid marks row = (whole_number_at 0 row, order_in cuts paid marks (whole_number_at 0 row) (whole_number_at 1 row))

-- the pools that the tables stand for, as entries of the book
abbrev pub pool_entries : Trees → List (ℕ × Order)
pool_entries db =
    map (pool_entry (rows_in layout.pool_cuts db) (rows_in layout.pool_returns db) (rows_in layout.mechanical_pools db)) (rows_in layout.pools db)

-- the book that the tables stand for
unfoldable pub book_of : Trees → Book
book_of db = record {
  transmissions = finite.from_entries (map transmission_entry (rows_in layout.transmissions db));
  ends = finite.from_entries (map end_entry (rows_in layout.segment_ends db));
  returns = finite.from_entries (map return_entry (rows_in layout.returns db));
  pools = finite.from_entries (pool_entries db);
}
