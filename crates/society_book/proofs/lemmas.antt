-- What is proved of the definitions, for the proofs of functions.
pub mod rows_alike
pub mod shown
pub mod lines
pub mod money
pub mod together
