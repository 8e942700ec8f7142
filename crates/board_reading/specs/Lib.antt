pub mod Value
pub mod Refused
pub mod Listed
pub mod Pins
pub mod Adding
pub mod Promise
