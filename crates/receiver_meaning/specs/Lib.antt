pub mod Told
pub mod Piece
pub mod Owed
