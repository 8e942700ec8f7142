pub mod Found
pub mod Reading
pub mod Laws
pub mod Beyond
