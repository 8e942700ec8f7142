pub mod Tidy
pub mod TidyLaws
pub mod Start
pub mod Fewer
pub mod Pass
