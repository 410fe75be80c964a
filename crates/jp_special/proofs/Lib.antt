pub mod BlockSize
pub mod KindLaws
pub mod LoopLaws
pub mod OutlineLaws
pub mod PlaceholderLaws
pub mod SetWords
pub mod SurveyLaws
pub mod WalkLaws
