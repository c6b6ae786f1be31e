pub mod Filled
pub mod UpTo
pub mod Lent
pub mod Made
