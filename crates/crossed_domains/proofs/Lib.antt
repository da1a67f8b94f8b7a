-- Runs of the sorted members are the groups, and the pass reports them.
pub mod Runs
pub mod Existing
pub mod Whole
pub mod Crowded
pub mod Laws
pub mod Reporting
