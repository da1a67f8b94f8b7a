-- What is printed for a batch; answers read back from its output, and what is printed of them; examples.
pub mod PrintedBatch
pub mod ReadBack
pub mod Examples
pub mod Computed
