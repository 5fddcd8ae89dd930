-- What the rows show that answer a question.
pub mod AskLemmas
pub mod QuestionLemmas
pub mod AskedInTurn
pub mod FrontRows
pub mod AccountTexts
pub mod AccountRows
pub mod PaidRows
pub mod VerdictRows
pub mod AckRows
pub mod WorkRows
pub mod NumberRows
pub mod Skips
pub mod PlainFronts
pub mod HeldNumbers
pub mod CreditParts
pub mod CreditRows
pub mod OrderRows
