-- The works of a cut.
pub mod CutRows
pub mod CutSets
pub mod CutNames
pub mod CutCandidates
pub mod CutNotes
pub mod CutLists
pub mod CutChoices
pub mod WorksHeld
pub mod ReadRows
pub mod BodyRows
pub mod FaultLemmas
pub mod Weighed
pub mod Lent
