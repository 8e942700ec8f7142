pub mod Book
pub mod Block
pub mod Taken
pub mod View
pub mod Promise
