-- The external inputs in a column.
pub mod Columns
