-- Stored filled records, and the image with their attributes.
pub mod Filled
