pub mod View
pub mod Slack
pub mod Arrays
pub mod Turn
pub mod Collect
pub mod Answer
