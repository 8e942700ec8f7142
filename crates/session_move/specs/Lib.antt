pub mod Value
pub mod Promise
pub mod Kept
pub mod Search
