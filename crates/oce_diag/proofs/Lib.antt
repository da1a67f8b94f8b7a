pub mod Diagnostics
pub mod Encoding
pub mod Putting
pub mod Reporting
pub mod Decoded
pub mod Examples
