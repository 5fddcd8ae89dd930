pub mod Joined
pub mod Laws
pub mod Log
pub mod Memory
pub mod Pieces
pub mod Search
pub mod Shown
