pub mod Named
pub mod Verb
pub mod Asked
