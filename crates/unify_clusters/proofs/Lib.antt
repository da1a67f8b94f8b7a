pub mod Roots
pub mod Laws
