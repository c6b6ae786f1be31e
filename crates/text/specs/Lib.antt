pub mod Bytes
pub mod Token
pub mod Number
