pub mod Bits
pub mod BoardWord
pub mod RoutingWord
pub mod Bytes
pub mod Inverse
pub mod RunLaws
