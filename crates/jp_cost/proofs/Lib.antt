pub mod CoreLaws
pub mod CostLaws
pub mod ItemLaws
pub mod PickLaws
pub mod RangeLaws
pub mod RoundLaws
