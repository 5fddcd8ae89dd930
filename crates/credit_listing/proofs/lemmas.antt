-- What is proved of the definitions, for the proofs of functions.
pub mod AnsweredLemmas
pub mod BreakLemmas
pub mod FeedLemmas
pub mod LineLemmas
pub mod RowLemmas
