pub mod Numbered
pub mod Places
pub mod Nets
