pub mod Layout
pub mod Tagged
pub mod Halves
pub mod Accords
