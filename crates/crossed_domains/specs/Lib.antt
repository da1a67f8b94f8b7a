-- How the groups of rule 5.4 are found: as runs of the sorted members, in one pass.
pub mod Runs
pub mod Pass
