pub mod Finite
pub mod Words
pub mod States
pub mod Labels
pub mod Symbols
pub mod Printed
