pub mod WordsBack
pub mod Limits
pub mod NumbersBack
