pub mod Floats
pub mod Settled
