pub mod Answered
pub mod Lines
pub mod Listed
pub mod Rows
pub mod Spelled
pub mod Told
