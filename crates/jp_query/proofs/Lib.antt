pub mod EqualityRules
pub mod FoldLaws
pub mod InLaw
pub mod PresentLaws
pub mod RefsLaws
pub mod RelsLaw
pub mod SetWords
pub mod TreeRules
