pub mod Agreed
pub mod Points
pub mod Turn
pub mod Pair
