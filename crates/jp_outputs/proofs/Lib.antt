pub mod NumberFacts
pub mod PlaceLaws
pub mod SceneFacts
pub mod ValueFacts
pub mod WithinLaws
