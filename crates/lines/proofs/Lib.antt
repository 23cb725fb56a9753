pub mod Examples
pub mod LineLaws
pub mod PrintLaws
pub mod Promises
pub mod TidyLaws
pub mod CompleteLaws
