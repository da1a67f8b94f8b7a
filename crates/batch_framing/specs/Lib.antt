-- A batch that isn't refused 11.
pub mod Clean
