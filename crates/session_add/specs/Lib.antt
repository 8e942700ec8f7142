pub mod Lines
pub mod Check
