pub mod Arrivals
pub mod Arriving
pub mod Going
pub mod LineTables
pub mod Outcomes
pub mod Runs
