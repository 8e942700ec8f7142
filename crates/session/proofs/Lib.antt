pub mod AllKept
pub mod Kept
pub mod Names
pub mod Starts
pub mod Steps
pub mod Tested
pub mod Turns
