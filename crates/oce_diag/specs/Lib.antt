-- Diagnostics, their subjects, their bytes, and how they are put into a report.
pub mod Diagnostics
pub mod Encoding
pub mod Putting
pub mod Reporting
pub mod Computed
-- The diagnostics that a report's bytes stand for.
pub mod Decoded
