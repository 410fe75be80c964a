pub mod QueryFacts
pub mod TableFacts
