pub mod LossSteps
pub mod EditSteps
pub mod CompleteLaws
