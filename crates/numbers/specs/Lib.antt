pub mod Bytes
pub mod Same
pub mod Computed
