-- Laws of the lines that list an image's fields.
pub mod Laws
