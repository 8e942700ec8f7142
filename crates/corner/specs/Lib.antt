pub mod Problem
pub mod Pairs
pub mod Shape
pub mod Placed
pub mod Trails
pub mod Links
