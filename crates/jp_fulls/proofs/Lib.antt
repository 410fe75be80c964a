pub mod FullFacts
pub mod ItemFacts
pub mod LeafFacts
pub mod SideFacts
