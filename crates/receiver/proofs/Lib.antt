pub mod Doors
pub mod Settled
pub mod Laws
pub mod Left
