pub mod Line
pub mod Found
