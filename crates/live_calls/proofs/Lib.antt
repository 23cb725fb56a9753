pub mod Live
pub mod Stepped
pub mod ContractRuns
pub mod CompleteLaws
