pub mod Given
pub mod Opening
