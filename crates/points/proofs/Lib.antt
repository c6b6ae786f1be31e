pub mod Agreed
pub mod Signed
pub mod Keys
pub mod Rule
pub mod Unique
pub mod Turns
pub mod Apart
