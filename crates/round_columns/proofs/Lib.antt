pub mod Counts
pub mod Gaps
pub mod Searches
pub mod Views
pub mod Shown
pub mod Nearness
