pub mod Buffer
pub mod BufferLaws
pub mod Words
pub mod WordsLaws
pub mod Promise
pub mod Laws
