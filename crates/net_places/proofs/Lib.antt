pub mod CountLaws
pub mod NetsLaws
pub mod NumberedLaws
