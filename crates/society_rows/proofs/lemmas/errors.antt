-- What a call tells of an error.
pub mod Blamed
pub mod Failures
pub mod Refusals
pub mod Told
pub mod ToldTables
pub mod Writings
