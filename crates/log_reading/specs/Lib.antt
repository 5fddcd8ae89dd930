pub mod Frames
pub mod OldFrames
pub mod Stands
