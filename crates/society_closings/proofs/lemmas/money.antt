-- A pool that is closed, and what the tables hold then.
pub mod BalanceAdds
pub mod PoolTables
pub mod PoolWrites
pub mod SameTotals
pub mod PoolHolds
pub mod Payments
