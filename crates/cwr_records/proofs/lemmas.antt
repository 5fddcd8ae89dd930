-- What is proved of the definitions, for the proofs of functions.
pub mod Lines
pub mod Fields
pub mod Layouts
pub mod Rows
pub mod RecordTypes
