pub mod Computed
pub mod Lines
pub mod Steady
