pub mod BoundLaws
pub mod ConjunctRules
pub mod FindLaws
pub mod ListLaws
pub mod OutputLaws
