pub mod Pile
pub mod Changes
pub mod Shift
