pub mod GoodSteps
pub mod RunLaws
pub mod StepLaws
pub mod CompleteLaws
pub mod Promises
