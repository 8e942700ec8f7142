pub mod Revised
pub mod Boards
