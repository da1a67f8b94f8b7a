-- Ranges of attribute sets, the values that lie in them, and rule 5 (rules/crossed_bounds.rs).
pub mod Ends
pub mod Ranges
pub mod Values
pub mod Groups
pub mod CrossedBounds
pub mod Counts
pub mod Computed
