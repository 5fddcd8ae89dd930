-- A transmission that comes, or an end of a segment, and how far its sender's line goes on.
pub mod Growth
pub mod HeldAdds
pub mod ReachedRows
pub mod RunErrs
pub mod RunFolds
pub mod SegmentEnds
pub mod RunTables
pub mod RunLines
pub mod OutcomeLemmas
pub mod RunWrites
pub mod RunBooks
pub mod ArrivedRuns
