-- The numbers of every diagnostic of an accepted image have room in its bytes.
pub mod Lists
pub mod Model
pub mod Groups
pub mod Rules
-- Laws of the printed report, its pieces as a whole, and FORMAT 19's example.
pub mod Laws
pub mod Row
pub mod Whole
pub mod Examples
