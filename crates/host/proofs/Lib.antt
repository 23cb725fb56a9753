pub mod NumberLaws
pub mod WideLaws
pub mod AskedLaws
pub mod CompleteLaws
