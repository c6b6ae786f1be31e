pub mod Fits
pub mod Readers
pub mod Openings
pub mod Filling
pub mod Lines
