pub mod Alone
pub mod Turned
pub mod Same
