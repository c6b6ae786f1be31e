pub mod Near
pub mod Cells
