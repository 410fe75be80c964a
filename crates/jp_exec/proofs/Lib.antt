pub mod BlockFacts
pub mod CellFacts
pub mod ClosedFacts
pub mod CycleFacts
pub mod GivenFacts
pub mod HandedIn
pub mod InteriorFacts
