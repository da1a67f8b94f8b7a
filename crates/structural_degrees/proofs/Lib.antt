-- Laws of add-degrees over a list of connections.
pub mod Counting
pub mod Laws
