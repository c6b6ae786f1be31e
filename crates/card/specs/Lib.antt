pub mod Card
pub mod Promise
pub mod Check
