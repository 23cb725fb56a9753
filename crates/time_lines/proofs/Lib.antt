pub mod LineLaws
pub mod CompleteLaws
