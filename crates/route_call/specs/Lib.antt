pub mod Answers
pub mod Sessions
pub mod AnswerLaws
pub mod Filled
pub mod Starting
pub mod Ending
pub mod Room
pub mod InBytes
