-- Decimal numbers.
pub mod Decimal
pub mod Computed
