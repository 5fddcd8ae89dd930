-- What is proved of the definitions, for the proofs of functions.
pub mod ReturnAdds
pub mod AddLemmas
pub mod StoreQuestions
pub mod NobodyLines
pub mod EmptyTables
