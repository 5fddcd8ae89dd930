pub mod Closings
pub mod KnownRows
pub mod Lines
pub mod OrdersAgain
pub mod OwnOrders
pub mod PaidOnce
pub mod Parts
pub mod Steps
