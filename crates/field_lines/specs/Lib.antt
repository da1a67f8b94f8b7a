-- The lines that list an image's fields.
pub mod Lines
