pub mod ReadLaws
pub mod CompleteLaws
