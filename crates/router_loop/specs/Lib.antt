pub mod Promise
pub mod Loop
pub mod Routed
