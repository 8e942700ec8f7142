pub mod Scans
pub mod ScanLaws
pub mod Writes
