-- Pools, credits and balances that stay as they are.
pub mod PoolsAlike
