pub mod Front
pub mod State
