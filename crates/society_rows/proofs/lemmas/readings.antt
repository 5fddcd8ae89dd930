-- What queries show, for every table.
pub mod Alike
pub mod Answers
pub mod AskedRows
pub mod CutRows
pub mod KeyEquality
pub mod Queries
pub mod QuestionQueries
pub mod RowFolds
pub mod RunFolds
pub mod Selections
pub mod TableQueries
pub mod RowidQueries
