-- What is proved of the definitions, for the proofs of functions.
pub mod Grows
pub mod LedTo
pub mod Members
pub mod Ranks
pub mod Reached
pub mod Rising
pub mod Ways
