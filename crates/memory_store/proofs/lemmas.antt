-- What is proved of the definitions, for the proofs of functions.
pub mod Calls
pub mod Kept
pub mod Logs
pub mod Marks
pub mod Over
pub mod PlaceLemmas
pub mod Places
pub mod RowsAt
pub mod SearchLemmas
pub mod Shaped
pub mod ShownCalls
pub mod WriteLemmas
