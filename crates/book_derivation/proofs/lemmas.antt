-- What is proved of the definitions, for the proofs of functions.
pub mod Additions
pub mod Apart
pub mod Derivings
pub mod Derived
pub mod LineWrites
pub mod OwnTables
pub mod OwnWrites
pub mod SoFar
pub mod Writes
pub mod money
