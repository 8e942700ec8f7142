pub mod Made
pub mod Demand
pub mod Answered
pub mod SameBoard
