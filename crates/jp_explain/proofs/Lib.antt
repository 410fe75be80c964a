pub mod BlockLaws
pub mod LineLaws
pub mod NameLaws
pub mod PlanLaws
pub mod SublinkLaws
pub mod TextLaws
