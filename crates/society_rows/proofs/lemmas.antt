-- What is proved of the definitions, for the proofs of functions.
pub mod changes
pub mod readings
pub mod definitions
pub mod errors
