pub mod RecordLaws
pub mod CompleteLaws
