pub mod Found
pub mod Axis
