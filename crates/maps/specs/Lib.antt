pub mod PointMap
pub mod SquareMap
pub mod SquareInverse
pub mod SquareBits
