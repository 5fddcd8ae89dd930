pub mod lemmas
mod Worked
mod WorkedBooks
