-- What is proved of the definitions, for the proofs of functions.
pub mod Counts
pub mod Thresholds
pub mod Parts
pub mod Units
pub mod Whole
pub mod Neighbours
