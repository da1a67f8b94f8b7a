-- What text a subject has, what is written of it into the caller's scratch, and what is read back.
pub mod Subject
pub mod Computed
pub mod Examples
