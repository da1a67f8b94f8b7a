-- The fields of an image, one after the other, and what going through them finds.
pub mod Walk
