-- What is proved of the definitions, for the proofs of functions.
pub mod ClosingLemmas
pub mod ConnectionLemmas
pub mod CreditLemmas
pub mod DatabaseLemmas
pub mod ReplayLemmas
pub mod TableLemmas
pub mod UnusedLemmas
pub mod WarnedLemmas
