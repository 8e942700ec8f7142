pub mod View
pub mod Value
pub mod Promise
