pub mod Symbols
pub mod Runs
pub mod Lent
pub mod Kept
pub mod Going
pub mod Room
