pub mod Meaning
pub mod Course
pub mod Lent
