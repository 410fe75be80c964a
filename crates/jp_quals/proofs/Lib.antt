pub mod ExampleLaws
pub mod MadeLaws
