pub mod Openings
pub mod Settled
