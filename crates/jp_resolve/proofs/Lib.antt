pub mod CountLaws
pub mod NameLaws
pub mod OrderLaws
pub mod Rules
pub mod TopLaws
pub mod WalkLaws
pub mod Resolved
