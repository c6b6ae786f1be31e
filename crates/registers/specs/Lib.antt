pub mod Registers
pub mod Put
