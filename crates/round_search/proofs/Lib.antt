pub mod Distances
pub mod Ints
pub mod Keys
pub mod Columns
