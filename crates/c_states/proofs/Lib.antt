pub mod Back
pub mod Holding
