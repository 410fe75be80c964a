pub mod Bounds
pub mod Derived
pub mod EntryLaws
pub mod FoldLaws
pub mod TreeRules
pub mod Weights
pub mod WholeLaws
pub mod WholeParts
