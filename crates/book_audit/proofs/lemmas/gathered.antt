pub mod EntryBooks
pub mod EntrySenders
pub mod KeptRows
pub mod SenderLines
