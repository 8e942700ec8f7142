pub mod AddingLaws
pub mod ListedLaws
pub mod PinsLaws
pub mod PromiseLaws
pub mod ReadAs
pub mod ValueLaws
