pub mod ByRows
pub mod Framed
pub mod Spans
