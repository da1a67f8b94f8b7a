pub mod Slots
pub mod Unified
