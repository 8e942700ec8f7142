pub mod Pins
pub mod TakenLaws
pub mod There
pub mod ViewLaws
