pub mod Closing
pub mod Connections
pub mod Replays
pub mod Refusals
pub mod Troubles
