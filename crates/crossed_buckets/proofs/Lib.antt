-- Laws of the buckets.
pub mod Laws
