pub mod TableLaws
pub mod FirstLaws
