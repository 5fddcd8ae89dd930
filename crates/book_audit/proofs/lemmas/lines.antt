pub mod AlikeRows
pub mod LineAudits
pub mod OwnLines
pub mod SortedOnce
pub mod Strangers
pub mod WantedRows
