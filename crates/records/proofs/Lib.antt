pub mod Counts
pub mod Fits
pub mod Steps
pub mod Back
