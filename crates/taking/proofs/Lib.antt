pub mod InputLaws
pub mod CompleteLaws
