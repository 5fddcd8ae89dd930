pub mod BalanceSteps
pub mod CreditSteps
pub mod LinedBooks
pub mod MoneyHeld
