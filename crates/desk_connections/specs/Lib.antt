pub mod Connections
pub mod Doors
pub mod Faults
