pub mod Numbers
pub mod Rows
pub mod Returns
pub mod Unread
pub use Rattle.csv.specs.Reading
pub use Rattle.csv.specs.Records
