pub mod Records
pub mod Images
