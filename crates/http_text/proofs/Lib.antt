pub mod lemmas
mod Worked
mod WorkedBodies
