pub mod Audits
pub mod Existing
pub mod Older
pub mod OpenSteps
pub mod Opening
pub mod Reading
pub mod TakingOver
