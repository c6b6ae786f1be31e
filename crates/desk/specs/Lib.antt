pub mod Desk
pub mod Room
