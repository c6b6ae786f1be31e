pub mod Gaps
pub mod Spoiled
