pub mod Theorems
pub mod Ours
pub mod Bounds
pub mod Tests
pub mod Steps
pub mod Following
