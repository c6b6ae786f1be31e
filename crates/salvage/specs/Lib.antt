pub mod Working
pub mod Run
pub mod Taking
