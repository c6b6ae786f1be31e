pub mod Differences
pub mod Passing
