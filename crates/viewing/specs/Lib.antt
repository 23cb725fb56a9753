-- How the code holds views, beside the rules of knowledge.
pub mod Counts
