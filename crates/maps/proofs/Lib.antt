pub mod Both
pub mod Apart
pub mod SquareTests
pub mod SquareLaws
pub mod SquareFigure
