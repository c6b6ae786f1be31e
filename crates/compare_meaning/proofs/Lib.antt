pub mod Meaning
pub mod Forms
pub mod Runs
pub mod Laws
pub mod Rows
pub mod Whole
