-- A batch of images: its fields, what its output holds, the answer and the output buffer after the call; batches and what each gives.
pub mod Fields
pub mod Output
pub mod Answer
pub mod Single
pub mod Packed
pub mod Examples
pub mod Computed
