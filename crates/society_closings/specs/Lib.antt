pub mod Blamed
pub mod Choosing
pub mod Closings
pub mod CutWorks
pub mod Readable
pub mod Weighing
