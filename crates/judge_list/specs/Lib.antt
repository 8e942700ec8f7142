pub mod Refusals
pub mod Verdicts
pub mod VerdictLaws
pub mod ComparisonLaws
