pub mod Call
pub mod History
pub mod Listed
pub mod Moved
pub mod Names
pub mod Rooms
pub mod Routing
pub mod Untaken
