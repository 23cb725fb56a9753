pub mod BufferLaws
pub mod AskLaws
pub mod CompleteLaws
pub mod CoreLaws
pub mod MarkLaws
pub mod AgreedLaws
