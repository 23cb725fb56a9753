-- Document 01's worked examples.
pub mod Examples
