pub mod Turns
pub mod AnyOf
pub mod KnownSteps
pub mod SettleSteps
pub mod CompleteLaws
pub mod Looks
