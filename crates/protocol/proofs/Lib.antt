pub mod Fits
pub mod Requests
