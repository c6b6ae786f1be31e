pub mod Sound
pub mod Cases
pub mod Exactly
pub mod Lists
pub mod Settled
pub mod Run
