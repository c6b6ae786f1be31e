pub mod Send
pub mod SendList
pub mod Promise
pub mod Run
pub mod Loop
