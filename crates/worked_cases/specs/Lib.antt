pub mod Everything
pub mod Boards
