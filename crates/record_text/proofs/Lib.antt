pub mod Notings
pub mod Settled
