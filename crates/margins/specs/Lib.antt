pub mod Latest
pub mod Guarantee
