pub mod Held
pub mod Halves
pub mod AccordsBack
