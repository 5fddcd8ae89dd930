pub mod EntriesFound
pub mod KeyForms
pub mod KeyedRows
pub mod OwnEntries
pub mod ReportedRows
pub mod RowForms
pub mod SentRows
pub mod StatedRows
