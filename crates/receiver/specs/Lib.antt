pub mod Doors
pub mod Promise
