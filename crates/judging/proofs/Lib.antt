pub mod JudgingLaws
pub mod OrderNumberLaws
pub mod CompleteLaws
