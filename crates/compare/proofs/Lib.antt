pub mod Bounds
pub mod Loops
