pub mod Deriving
pub mod Lines
pub mod Money
pub mod Writing
