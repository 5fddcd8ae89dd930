-- Statements of one transaction, together.
pub mod StepLemmas
pub mod AloneLemmas
pub mod ErrLemmas
pub mod JudgedLemmas
