pub mod Every
pub mod Reverse
pub mod Room
pub mod RoomLaws
