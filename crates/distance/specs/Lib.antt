pub mod Distance
pub mod Found
