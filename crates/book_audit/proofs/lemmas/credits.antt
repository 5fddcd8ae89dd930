pub mod CreditLines
pub mod Finding
pub mod FirstColumns
pub mod Payable
pub mod WorksListed
pub mod Portions
