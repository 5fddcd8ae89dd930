-- What is proved of the definitions, for the proofs of functions.
pub mod Three
pub mod Records
pub mod Taken
