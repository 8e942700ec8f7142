pub mod Counts
pub mod Counting
