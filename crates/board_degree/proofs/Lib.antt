pub mod Convex
pub mod Examples
pub mod KindLaws
