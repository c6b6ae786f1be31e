pub mod Empty
pub mod Cases
pub mod Final
pub mod Settling
pub mod Runs
pub mod WhenSaid
