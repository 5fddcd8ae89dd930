-- What is proved of the definitions, for the proofs of functions.
pub mod ExaminedLemmas
pub mod LookLemmas
pub mod RefusalLemmas
pub mod WayLemmas
