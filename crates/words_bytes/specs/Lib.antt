pub mod Words
pub mod WordsLaws
pub mod Put
pub mod PutLaws
