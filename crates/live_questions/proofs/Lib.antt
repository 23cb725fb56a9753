pub mod WriteLaws
pub mod CarriedLaws
pub mod AskLaws
pub mod Parts
pub mod CompleteLaws
pub mod Promises
pub mod Reading
pub mod Questions
