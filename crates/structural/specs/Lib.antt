-- In-degrees (rules/mod.rs) and rules 1 to 4 (rules/structural.rs).
pub mod Degrees
pub mod Structural
pub mod Computed
