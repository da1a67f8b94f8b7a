pub mod Lists
pub mod Options
pub mod Buffers
pub mod Parts
pub mod Members
pub mod Patches
