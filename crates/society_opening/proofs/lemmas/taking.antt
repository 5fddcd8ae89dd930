-- How tables of an older layout are completed.
pub mod SameTables
pub mod OverLemmas
pub mod Completed
pub mod WritingFaults
