pub mod ExampleLaws
pub mod PlanTreeLaws
pub mod PoolLaws
