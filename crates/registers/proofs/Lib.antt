pub mod Words
pub mod Moved
pub mod Oldest
pub mod Count
pub mod Places
