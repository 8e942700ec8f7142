pub mod Promise
pub mod Divided
