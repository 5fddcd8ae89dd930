-- The texts that make the tables, and what they define.
pub mod Booleans
pub mod Creates
pub mod FirstTables
pub mod Laid
pub mod LayoutAlone
pub mod Missing
pub mod NewBooks
pub mod OneChecks
pub mod Texts
