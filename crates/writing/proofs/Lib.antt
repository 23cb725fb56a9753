pub mod SizeLaws
pub mod CountingLaws
pub mod PuttingLaws
pub mod CompleteLaws
