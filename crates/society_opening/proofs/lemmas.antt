pub mod opened
pub mod taking
