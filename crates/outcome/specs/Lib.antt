-- What one checking call gives: the report of all rules, the filled image, the answer and both buffers after the call; the models and what each gives.
pub mod Report
pub mod Filled
pub mod Answer
pub mod Examples
pub mod Computed
