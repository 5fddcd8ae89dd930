-- How a database is opened, what is told of it, and what is opened after a store.
pub mod Passing
pub mod Failing
pub mod OpenTold
pub mod OpenedLemmas
pub mod AuditedLemmas
pub mod Reopening
