-- The members of the groups of rule 5.4.
pub mod Members
