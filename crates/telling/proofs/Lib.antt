pub mod LaidLaws
pub mod MarkLaws
pub mod TimeLaws
pub mod CompleteLaws
