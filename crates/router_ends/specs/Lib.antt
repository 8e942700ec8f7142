pub mod View
pub mod Went
pub mod Moved
