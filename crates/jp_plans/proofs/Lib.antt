pub mod KeyFacts
pub mod LookupFacts
pub mod OperatorFacts
pub mod RowFacts
pub mod SceneFacts
