pub mod RecordLaws
pub mod CarriedLaws
pub mod CompleteLaws
