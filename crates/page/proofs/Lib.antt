pub mod CompleteLaws
pub mod PageLaws
pub mod Promises
