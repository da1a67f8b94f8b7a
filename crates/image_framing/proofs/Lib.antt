-- Laws of going through the fields of an image.
pub mod Leads
pub mod Rests
pub mod Finds
