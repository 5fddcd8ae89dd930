pub mod Lemmas
pub mod OldReading
pub mod Standing
pub mod Watching
