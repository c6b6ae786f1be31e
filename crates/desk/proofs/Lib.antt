pub mod Desks
pub mod Floats
pub mod Settled
