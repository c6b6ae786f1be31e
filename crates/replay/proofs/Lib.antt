pub mod Own
pub mod Feeds
pub mod Meant
pub mod Rows
pub mod Forms
pub mod Words
pub mod Records
