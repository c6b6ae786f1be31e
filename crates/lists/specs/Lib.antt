pub mod Tabled
pub mod UpTo
