-- What is proved of the definitions, for the proofs of functions.
pub mod AnsweredLemmas
pub mod AnsweringLemmas
pub mod FeedingLemmas
pub mod FieldLemmas
pub mod Known
pub mod ServeLemmas
pub mod UpcomingLemmas
