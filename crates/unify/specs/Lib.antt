-- Rule 6 (rules/unify.rs): details, slots, clusters, what each root reports and fills, and the whole rule.
pub mod Details
pub mod Slots
pub mod Clusters
pub mod Unify
pub mod Computed
