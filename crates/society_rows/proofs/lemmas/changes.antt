-- What statements that write do, for every table.
pub mod Adds
pub mod Casts
pub mod Columns
pub mod Commands
pub mod EachInsert
pub mod EachPut
pub mod Effects
pub mod Inserts
pub mod ListWrites
pub mod Parts
pub mod Puts
pub mod References
pub mod Renaming
pub mod Rowids
pub mod Units
pub mod UpsertParts
pub mod Upserts
