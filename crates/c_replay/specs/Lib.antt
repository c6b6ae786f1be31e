pub mod Calls
pub mod Promise
pub mod Run
pub mod Saying
pub mod Settled
pub mod Freely
