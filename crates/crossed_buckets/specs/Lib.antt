-- Buckets of the members of rule 5.4.
pub mod Buckets
