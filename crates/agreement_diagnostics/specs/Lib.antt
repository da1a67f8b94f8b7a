-- Stored diagnostics beside those of a report.
pub mod Diagnostics
