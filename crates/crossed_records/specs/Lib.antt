-- How much rule 5 may report.
pub mod Most
