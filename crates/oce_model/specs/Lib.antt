-- The model image: the numbers of its format, attributes, fields, texts, records, refusals 1 to 8; images built of records, and one of raw bytes.
pub mod Format
pub mod Attributes
pub mod Image
pub mod Texts
pub mod Model
pub mod Refusals
pub mod Build
pub mod Examples
pub mod Raw
pub mod Computed
