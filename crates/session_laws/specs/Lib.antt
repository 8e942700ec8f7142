pub mod Rising
pub mod Fine
