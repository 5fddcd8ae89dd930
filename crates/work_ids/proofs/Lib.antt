pub mod lemmas
mod Worked
