-- What is proved of the definitions, for the proofs of functions.
pub mod Fields
pub mod AckLemmas
