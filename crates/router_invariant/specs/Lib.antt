pub mod Run
pub mod Ready
pub mod Divide
pub mod Drop
