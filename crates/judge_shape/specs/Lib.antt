pub mod Refused
pub mod States
pub mod Moves
pub mod Whole
