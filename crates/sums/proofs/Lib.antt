pub mod Least
pub mod Together
