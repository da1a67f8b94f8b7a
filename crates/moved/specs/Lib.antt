-- Demand 3: values that move along connections. FORMAT 18.
pub mod Moved
pub mod Witness
pub mod Computed
