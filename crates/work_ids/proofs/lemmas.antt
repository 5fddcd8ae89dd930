-- What is proved of the definitions, for the proofs of functions.
pub mod Capitals
pub mod DatedTexts
pub mod Decimals
pub mod FileNames
pub mod Joined
pub mod LastDigits
pub mod Marks
pub mod Sums
pub mod Trailing
pub mod Accounts
pub mod Refilled
pub mod IpiNames
pub mod PartyNumbers
