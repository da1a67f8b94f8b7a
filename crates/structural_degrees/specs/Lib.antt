-- In-degrees over a list of connections.
pub mod Counted
-- In-degrees of all connectors, in a column.
pub mod Columns
