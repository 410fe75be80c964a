pub mod FirstFacts
pub mod KeyFacts
pub mod PartFacts
pub mod SortFacts
