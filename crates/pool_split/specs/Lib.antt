pub mod Split
pub mod Threshold
pub mod Credits
