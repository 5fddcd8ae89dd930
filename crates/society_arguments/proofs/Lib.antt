pub mod lemmas
pub mod Worked
