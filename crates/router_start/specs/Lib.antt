pub mod Front
pub mod FrontLaws
pub mod Lines
pub mod LineLaws
pub mod Table
pub mod TableLaws
