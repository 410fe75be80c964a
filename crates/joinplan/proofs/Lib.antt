pub mod LineLemmas
pub mod OutcomeLemmas
pub mod ReadingLemmas
pub mod StatementLemmas
pub mod TableLemmas
pub mod HeadlineLemmas
pub mod SureLemmas
pub mod HeldLemmas
