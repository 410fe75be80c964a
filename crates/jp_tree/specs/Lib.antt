pub mod BlockParts
pub mod Examples
pub mod PlanTrees
pub mod Pools
pub mod Prepared
