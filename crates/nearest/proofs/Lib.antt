pub mod Laws
pub mod Missing
pub mod Range
pub mod Rows
pub mod Weighing
