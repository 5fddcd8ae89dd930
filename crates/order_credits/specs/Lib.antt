pub mod Shares
pub mod Refused
pub mod Looked
