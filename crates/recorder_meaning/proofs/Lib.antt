pub mod Forms
pub mod Seeing
pub mod WordsIn
pub mod Agrees
pub mod Library
