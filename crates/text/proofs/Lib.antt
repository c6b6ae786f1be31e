pub mod Digits
pub mod Signs
pub mod Tokens
pub mod Cut
