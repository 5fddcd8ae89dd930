-- Rows by their keys, and the book that they stand for.
pub mod RowLemmas
pub mod BookLemmas
pub mod NamedRows
pub mod KeyRows
pub mod SortedRows
pub mod PutRows
pub mod EndRows
pub mod KeptTables
