pub mod GreatestPart
pub mod MaskAlgebra
pub mod SetLemmas
pub mod ValueOrder
pub mod WalkLemmas
