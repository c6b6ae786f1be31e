pub mod Search
pub mod Telling
pub mod Cases
pub mod Speaks
pub mod Marked
