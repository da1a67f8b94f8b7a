pub mod Laws
pub mod Strays
