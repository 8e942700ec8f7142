pub mod Refused
pub mod Scan
pub mod Promise
pub mod OneWord
pub mod Loop
pub mod Laws
