-- What is proved of the definitions, for the proofs of functions.
pub mod Exceeding
pub mod First
pub mod Found
pub mod Latest
pub mod Names
pub mod Nearest
pub mod Whole
pub mod Blocks
