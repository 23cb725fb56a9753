pub mod DigitLaws
pub mod WordLaws
pub mod PutLaws
pub mod CompleteLaws
