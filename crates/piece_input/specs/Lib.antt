pub mod Looks
pub mod Marks
