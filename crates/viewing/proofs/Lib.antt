pub mod CountLaws
pub mod Turns
pub mod ViewSteps
pub mod CompleteLaws
