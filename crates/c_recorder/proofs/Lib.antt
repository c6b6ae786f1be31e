pub mod Around
pub mod Ends
pub mod Cases
pub mod Settled
