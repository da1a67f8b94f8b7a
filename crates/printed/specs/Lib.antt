-- A model whose numbers have four bytes.
pub mod Bounded
-- The printed report, and its pieces.
pub mod Printed
pub mod Pieces
pub mod Computed
pub mod Examples
