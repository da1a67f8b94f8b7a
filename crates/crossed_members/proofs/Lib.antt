-- A search of the numbers below one.
pub mod Laws
