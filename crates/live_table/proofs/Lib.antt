pub mod ListLaws
pub mod UsedLaws
pub mod SoundLaws
pub mod CompleteLaws
