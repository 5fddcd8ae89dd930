pub mod Ascends
pub mod Ways
