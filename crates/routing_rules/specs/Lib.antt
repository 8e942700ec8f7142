pub mod Routing
pub mod Check
