pub mod Drawing
pub mod Judging
pub mod Laws
pub mod Routing
pub mod WireLaws
