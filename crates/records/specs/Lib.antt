pub mod Kinds
pub mod Values
pub mod Reading
pub mod Frames
