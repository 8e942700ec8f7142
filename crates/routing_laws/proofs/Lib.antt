pub mod Crossed
pub mod CrossingSum
pub mod EdgeList
pub mod Used
pub mod Words
