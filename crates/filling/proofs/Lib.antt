pub mod AgainLaws
pub mod FillLaws
pub mod GoodReading
pub mod CompleteLaws
