pub mod ComputedLaws
pub mod ConcatenationLaws
pub mod ExactLaws
pub mod LiteralLaws
pub mod NumberLaws
