pub mod ChainLaws
pub mod PlainLaws
