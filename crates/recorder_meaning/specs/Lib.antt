pub mod WordsIn
pub mod Recording
pub mod Library
