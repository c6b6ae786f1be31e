pub mod Named
pub mod Settled
