pub mod AlikeLaws
pub mod PageLaws
pub mod ReportLaws
pub mod Results
pub mod RouteLaws
pub mod WritingLaws
