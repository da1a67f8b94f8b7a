-- What the printing program leaves in the buffers that it is lent, and what it answers.
pub mod Outcome
