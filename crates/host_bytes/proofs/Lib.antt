pub mod CompleteLaws
