pub mod Nearest
pub mod Given
pub mod Heard
pub mod Sampled
pub mod Rows
