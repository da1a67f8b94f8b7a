-- Files of stored answers.
pub mod Files
