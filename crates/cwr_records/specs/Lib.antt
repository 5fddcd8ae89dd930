pub mod Lines
pub mod Layouts
pub mod Places
pub mod Records
pub mod Kinds
pub use Rattle.work_ids.specs.Blanks
pub use Rattle.work_ids.specs.Digits
pub mod Typed
