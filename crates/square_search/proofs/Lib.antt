pub mod Signed
pub mod Places
pub mod Axis
pub mod Laws
