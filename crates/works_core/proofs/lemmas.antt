-- What is proved of the definitions, for the proofs of functions.
pub mod TrackLemmas
pub mod KeptLemmas
pub mod NumberLemmas
pub mod CutLemmas
pub mod CleanLemmas
pub mod NextLemmas
pub mod EndLemmas
pub mod EntryLemmas
