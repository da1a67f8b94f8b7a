pub mod Bytes
pub mod Bits
pub mod Orders
pub mod Reals
pub mod Integers
