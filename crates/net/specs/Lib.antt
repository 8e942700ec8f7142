pub mod Terminals
pub mod View
pub mod ViewLaws
pub mod Same
pub mod Grid
pub mod GridLaws
