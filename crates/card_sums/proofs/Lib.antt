pub mod Meant
pub mod Every
