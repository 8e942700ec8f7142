pub mod Traces
pub mod Measures
pub mod Reports
pub mod Directions
pub mod Marks
pub mod Tracing
pub mod Knocks
pub mod Paths
