-- Laws of what a reader finds.
pub mod Laws
