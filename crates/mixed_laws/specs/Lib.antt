pub mod Json
pub mod Frames
