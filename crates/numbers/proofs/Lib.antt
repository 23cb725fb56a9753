pub mod CursorLaws
pub mod ByteLaws
pub mod PlacingLaws
pub mod CompleteLaws
