-- What a reader finds where it stands.
pub mod Reading
