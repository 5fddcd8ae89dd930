pub mod Agreement
pub mod BalanceRows
pub mod Comings
pub mod TakenRows
pub mod TextKeys
