-- Laws of summaries read back, and what is printed of them as a whole; FORMAT 23's example.
pub mod ReadBack
pub mod Whole
pub mod Examples
