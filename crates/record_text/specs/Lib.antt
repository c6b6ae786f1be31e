pub mod Note
pub mod Room
