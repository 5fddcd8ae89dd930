pub mod Examined
pub mod Found
pub mod HasBytes
pub mod Looks
pub mod Parting
pub mod Refusals
pub mod Waiting
