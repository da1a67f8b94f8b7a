-- What is summed up for one image of a batch, and the bytes that it needs.
pub mod Summarized
