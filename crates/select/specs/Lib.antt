pub mod Select
pub mod Ways
