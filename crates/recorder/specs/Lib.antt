pub mod Recorded
pub mod Doors
pub mod Promise
pub mod Taping
pub mod Lent
