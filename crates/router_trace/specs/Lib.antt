pub mod Hops
pub mod Traces
pub mod Writes
pub mod Writing
pub mod Walks
pub mod Directions
pub mod Link
