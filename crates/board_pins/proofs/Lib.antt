pub mod AtVertex
pub mod Frame
pub mod Law
pub mod LinePins
pub mod Widest
pub mod FewPins
