pub mod Bytes
pub mod Kept
pub mod CodeWords
