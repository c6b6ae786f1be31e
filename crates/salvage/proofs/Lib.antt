pub mod Feeds
pub mod Putting
pub mod Comes
pub mod Meant
pub mod Takes
