pub mod Running
pub mod Steps
pub mod Written
pub mod Groups
pub mod Same
pub mod Laws
