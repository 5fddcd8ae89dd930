-- What is proved of the definitions, for the proofs of functions.
pub mod OwnedLemmas
pub mod OwnerTables
pub mod RefusalLemmas
pub mod ShareLemmas
pub mod SoughtLemmas
