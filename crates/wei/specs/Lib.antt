pub mod Word
pub mod State
pub mod Label
pub mod Symbol
pub mod Tables
