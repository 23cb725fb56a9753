pub mod LastLaws
pub mod CompleteLaws
