pub mod LineFacts
pub mod ParamFacts
pub mod Pieces
pub mod RowFacts
pub mod SeeingFacts
pub mod SightFacts
